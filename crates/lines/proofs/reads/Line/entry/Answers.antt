use Rattle.std.proofs.Common.{Err, sym, ap, ◌∙◌}
use Rattle.std.proofs.lemmas.Result.{err_from_is_err_and}
use Rattle.lines.specs.Cutting.{viewed}
use Rattle.lines.proofs.Reading.{entry_no_cue}
use Rattle.lines.proofs.reads.Line.entry.Goals as goal

pub returns-in_err-cue : goal.returns-in_err-cue
returns-in_err-cue g c =
    let p = err_from_is_err_and c.from_residual.result c.from_residual.ensures.1 in
    p.1 ∙ ap Err p.2 ∙ sym (entry_no_cue g.K.Item.parsed (viewed c.args.self.fields) _ (sym c.in_err-cue.ensures))
