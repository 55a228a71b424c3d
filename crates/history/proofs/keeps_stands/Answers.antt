use Rattle.history.proofs.Keeping.{keeps_is}
use Rattle.history.proofs.keeps_stands.Goals as goal

pub returns : goal.returns
returns g c = keeps_is _
