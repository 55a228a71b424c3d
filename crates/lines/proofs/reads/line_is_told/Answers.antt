use Rattle.lines.proofs.LineIsTold.{line_is_told_lem}
use Rattle.lines.proofs.reads.line_is_told.Goals as goal

pub returns : goal.returns
returns g c = line_is_told_lem g.K.Item.parsed
