use Rattle.lines.proofs.CutIsTold.{cut_is_told_lem}
use Rattle.lines.proofs.cuts.cut_is_told.Goals as goal

pub returns : goal.returns
returns c = cut_is_told_lem
