use Rattle.lines.proofs.RoundTrip.{writes_back}
use Rattle.lines.proofs.writes.line_writes_back.Goals as goal

pub returns : goal.returns
returns g c = writes_back g.K.Item.text g.K.Item.parsed g.met.K.Exact.exact
