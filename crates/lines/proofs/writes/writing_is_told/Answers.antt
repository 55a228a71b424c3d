use Rattle.lines.proofs.WritingIsTold.{writing_is_told_lem, rewriting_is_told_lem}
use Rattle.lines.proofs.writes.writing_is_told.Goals as goal

pub returns : goal.returns
returns g c = record {
  writing = writing_is_told_lem g.K.Item.text g.met.K.Item.eight;
  rewriting = rewriting_is_told_lem g.K.Item.text g.met.K.Item.eight g.K.Item.parsed;
}
