use Rattle.equivalence.proofs.Swapped.{conflict_is_seen_lem}
use Rattle.equivalence.proofs.conflict_is_seen.Goals as goal

pub returns : goal.returns
returns g c = conflict_is_seen_lem _
