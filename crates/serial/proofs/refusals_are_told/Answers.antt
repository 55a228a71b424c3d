use Rattle.graphs.proofs.Refusals.{search_refusal_told}
use Rattle.history.specs.Entries.{committed}
use Rattle.serial.proofs.refusals_are_told.Goals as goal

pub returns : goal.returns
returns g c es = search_refusal_told (committed es)
