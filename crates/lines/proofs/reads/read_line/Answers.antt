use Rattle.std.proofs.Common.{◌≡◌, Some, Ok, Err, sym, ap, ◌∙◌}
use Rattle.std.proofs.lemmas.Result.{err_from_is_err_and}
use Rattle.lines.specs.Cutting.{cut_of, viewed, viewed_cut}
use Rattle.lines.proofs.Cutting.{cut_well}
use Rattle.lines.proofs.Reading.{next_end, next_bad, next_line}
use Rattle.lines.proofs.reads.read_line.Given as given
use Rattle.lines.proofs.reads.read_line.Goals as goal
use Rattle.lines.proofs.reads.read_line.Goals.{In-Some}

-- the line that was cut
cut_some : (g : given.Over) (c : In-Some g) → cut_of c.args.sheet.now ≡ Ok (Some (viewed c.in-Some.fields))
cut_some g c =
    sym c.cut.ensures ∙ ap viewed_cut (c.in_ok-cut.was ∙ ap Ok c.in-Some.is)

pub returns-in_err-cut : goal.returns-in_err-cut
returns-in_err-cut g c =
    let p = err_from_is_err_and c.from_residual.result c.from_residual.ensures.1 in
    p.1 ∙ ap Err p.2 ∙ sym (next_bad g.K.Item.parsed c.args.sheet.now _ (sym c.cut.ensures ∙ ap viewed_cut c.in_err-cut.was))

pub invariant_of-entry : goal.invariant_of-entry
invariant_of-entry g c = record { well = cut_well c.args.sheet.now _ (cut_some g c) }

pub returns-in_err-entry-in-Some : goal.returns-in_err-entry-in-Some
returns-in_err-entry-in-Some g c =
    let p = err_from_is_err_and c.from_residual-in_err-entry-in-Some.result c.from_residual-in_err-entry-in-Some.ensures.1 in
    let at = (goal.at.returns-in_err-entry-in-Some g c).In-Some in
    p.1
    ∙ ap Err p.2
    ∙ sym (next_line g.K.Item.parsed c.args.sheet.now (viewed c.in-Some.fields) (Err c.in_err-entry-in-Some.field-0.0) (cut_some g at) (sym c.in_err-entry-in-Some.ensures))

pub returns-in-None : goal.returns-in-None
returns-in-None g c =
    sym (next_end g.K.Item.parsed c.args.sheet.now (sym c.cut.ensures ∙ ap viewed_cut (c.in_ok-cut.was ∙ ap Ok c.in-None.is)))

pub returns-in_ok-entry-in-Some : goal.returns-in_ok-entry-in-Some
returns-in_ok-entry-in-Some g c =
    let at = (goal.at.returns-in_ok-entry-in-Some g c).In-Some in
    sym (next_line g.K.Item.parsed c.args.sheet.now (viewed c.in-Some.fields) (Ok c.in_ok-entry-in-Some.field-0) (cut_some g at) (sym c.in_ok-entry-in-Some.ensures))
