use Rattle.views.proofs.Refusals.{views_refusal_told}
use Rattle.views.proofs.refusals_are_told.Goals as goal

pub returns : goal.returns
returns g c = views_refusal_told _
