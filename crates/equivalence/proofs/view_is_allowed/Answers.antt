use Rattle.equivalence.proofs.Allowed.{view_is_allowed_lem}
use Rattle.equivalence.proofs.Fitting.{views_by_constraints}
use Rattle.equivalence.proofs.view_is_allowed.Goals as goal

pub returns : goal.returns
returns g c = record { allowed = view_is_allowed_lem _; first = views_by_constraints _ (view_is_allowed_lem _) }
