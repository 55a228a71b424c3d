use Rattle.views.proofs.Gathering.{Gathered}
use Rattle.views.proofs.constraints.constraints_of.Given as goal

abbrev pub invariant-loop-p : goal.invariant-loop-p
invariant-loop-p g l = Gathered g.K.Item.alike l.entries l.fn.members l.p l.t
