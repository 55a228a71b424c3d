use Rattle.equivalence.proofs.SameViews.{view_is_same_lem}
use Rattle.equivalence.proofs.view_is_same.Goals as goal

pub returns : goal.returns
returns g c = view_is_same_lem _
