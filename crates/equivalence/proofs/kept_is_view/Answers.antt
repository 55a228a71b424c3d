use Rattle.equivalence.proofs.Kept.{kept_is_view_lem}
use Rattle.equivalence.proofs.kept_is_view.Goals as goal

pub returns : goal.returns
returns g c = kept_is_view_lem _
