use Rattle.graphs.proofs.Waiting.{waits_told}
use Rattle.graphs.proofs.waits.waits_are_told.Goals as goal

pub returns : goal.returns
returns c = waits_told
