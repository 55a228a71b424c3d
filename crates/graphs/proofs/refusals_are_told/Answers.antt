use Rattle.graphs.proofs.Refusals.{search_refusal_told}
use Rattle.graphs.proofs.refusals_are_told.Goals as goal

pub returns : goal.returns
returns c = search_refusal_told
