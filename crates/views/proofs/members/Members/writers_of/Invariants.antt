use Rattle.history.specs.Marked.{marked}
use Rattle.views.proofs.Writing.{Found}
use Rattle.views.proofs.members.Members.writers_of.Given as goal

abbrev pub invariant-loop-w : goal.invariant-loop-w
invariant-loop-w g l = Found g.K.Item.alike (marked l.self.cues) l.item l.part l.w-index l.cues l.last
