use Rattle.std.proofs.Common.{◌∙◌, ap, subst, sym, take, drop, replicate, Err}
use Rattle.std.proofs.lemmas.Result.{err_from_is_err_and}
use Rattle.book.specs.Entering.{accepted}
use Rattle.runs.specs.Answers.{IsViewsAnswer}
use Rattle.runs.proofs.Shown.{front_long, views_shown, none_shown, views_not_taken}
use Rattle.runs.proofs.views.Goals as goal

pub returns-in_err-found : goal.returns-in_err-found
returns-in_err-found g c =
    let p = err_from_is_err_and c.from_residual.result c.from_residual.ensures.1 in
    let list = take c.min.result (replicate 64 0) in
    subst (IsViewsAnswer g.K.Item.alike (accepted c.args.book.now) c.args.cells) (sym (p.1 ∙ ap Err p.2))
    (views_not_taken g.K.Item.alike (accepted c.args.book.now) c.args.cells list c.views.new.list list (front_long c.args.cells c.min.result c.min.ensures) _ c.in_err-found.ensures.answer)

pub returns-in-Some : goal.returns-in-Some
returns-in-Some g c =
    views_shown g.K.Item.alike (accepted c.args.book.now) c.args.cells (take c.min.result (replicate 64 0)) c.views.new.list (drop c.min.result (replicate 64 0)) (front_long c.args.cells c.min.result c.min.ensures)
    c.in_ok-found.found c.in_ok-found.ensures.answer c.in_ok-found.ensures.list c.in_ok-found.ensures.right c.in-Some.count c.in-Some.is

pub returns-in-None : goal.returns-in-None
returns-in-None g c =
    none_shown g.K.Item.alike (accepted c.args.book.now) c.args.cells (take c.min.result (replicate 64 0)) c.views.new.list (drop c.min.result (replicate 64 0)) (front_long c.args.cells c.min.result c.min.ensures)
    c.in_ok-found.found c.in_ok-found.ensures.answer c.in_ok-found.ensures.list c.in_ok-found.ensures.right c.in-None.is
