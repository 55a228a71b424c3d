use Rattle.std.proofs.Common.{◌∙◌, ap, subst, sym, take, drop, replicate, Err}
use Rattle.std.proofs.lemmas.Result.{err_from_is_err_and}
use Rattle.book.specs.Entering.{accepted}
use Rattle.runs.specs.Answers.{IsOrderAnswer}
use Rattle.runs.proofs.Shown.{front_long, order_shown, cycle_shown, order_not_taken}
use Rattle.runs.proofs.order.Goals as goal

pub returns-in_err-found : goal.returns-in_err-found
returns-in_err-found g c =
    let p = err_from_is_err_and c.from_residual.result c.from_residual.ensures.1 in
    subst (IsOrderAnswer g.K.Item.alike (accepted c.args.book.now) c.args.cells c.args.bytes) (sym (p.1 ∙ ap Err p.2))
    (order_not_taken g.K.Item.alike (accepted c.args.book.now) c.args.cells c.args.bytes (take c.min.result (replicate 64 0)) (take c.min-2.result (replicate 64 0)) c.order.new.list c.order.new.list (front_long c.args.cells c.min.result c.min.ensures) (front_long c.args.bytes c.min-2.result c.min-2.ensures) _ c.in_err-found.ensures.answer)

pub returns-in-Order : goal.returns-in-Order
returns-in-Order g c =
    order_shown g.K.Item.alike (accepted c.args.book.now) c.args.cells c.args.bytes (take c.min.result (replicate 64 0)) (take c.min-2.result (replicate 64 0)) c.order.new.list (drop c.min.result (replicate 64 0)) (front_long c.args.cells c.min.result c.min.ensures) (front_long c.args.bytes c.min-2.result c.min-2.ensures)
    c.in_ok-found.found c.in_ok-found.ensures.answer c.in_ok-found.ensures.list c.in_ok-found.ensures.right c.in_ok-found.ensures.view c.in-Order.count c.in-Order.is

pub returns-in-Cycle : goal.returns-in-Cycle
returns-in-Cycle g c =
    cycle_shown g.K.Item.alike (accepted c.args.book.now) c.args.cells c.args.bytes (take c.min.result (replicate 64 0)) (take c.min-2.result (replicate 64 0)) c.order.new.list (drop c.min.result (replicate 64 0)) (front_long c.args.cells c.min.result c.min.ensures) (front_long c.args.bytes c.min-2.result c.min-2.ensures)
    c.in_ok-found.found c.in_ok-found.ensures.answer c.in_ok-found.ensures.list c.in_ok-found.ensures.right c.in_ok-found.ensures.view c.in-Cycle.count c.in-Cycle.is
