use Rattle.views.proofs.Putting.{BetweenUpto}
use Rattle.views.proofs.constraints.Constraints.put_between.Given as goal

abbrev pub invariant-loop-n : goal.invariant-loop-n
invariant-loop-n l = BetweenUpto l.initial.self l.source l.reader l.earlier l.later l.n l.self
