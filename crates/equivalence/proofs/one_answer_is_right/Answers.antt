use Rattle.equivalence.proofs.Cycles.{cycle_fits}
use Rattle.equivalence.proofs.OneAnswer.{one_answer}
use Rattle.equivalence.proofs.one_answer_is_right.Goals as goal

pub returns : goal.returns
returns g c = record { right = one_answer _; fits = cycle_fits _ }
