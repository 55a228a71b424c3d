use Rattle.std.proofs.Common.{ap, ◌++◌, drop, length, refl}
use Rattle.report.proofs.Writing.{laid}
use Rattle.report.proofs.cue_report.Goals as goal

pub returns-clause-writes : goal.returns-clause-writes
returns-clause-writes c =
    let text = c.text-text.result.now in
    laid c.args.sheet.now c.args.space.now c.report-page.result text _ (length text) c.report-page.ensures c.text-text.ensures.text refl c.text-text.ensures.short
    (ap (λ bs. bs ++ drop (length text) c.args.space.now) c.copy_from_slice.ensures.after)
