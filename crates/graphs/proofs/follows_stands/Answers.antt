use Rattle.graphs.proofs.Forward.{follows_forward}
use Rattle.graphs.proofs.follows_stands.Goals as goal

pub returns : goal.returns
returns c = follows_forward
