use Rattle.views.proofs.Putting.{FirstUpto}
use Rattle.views.proofs.constraints.Constraints.put_first.Given as goal

abbrev pub invariant-loop-n : goal.invariant-loop-n
invariant-loop-n l = FirstUpto l.initial.self l.reader l.writers l.n l.self
