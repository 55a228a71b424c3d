use Rattle.history.proofs.Marks.{Marking}
use Rattle.history.proofs.committed_cues.Given as goal

abbrev pub invariant-loop-e : goal.invariant-loop-e
invariant-loop-e g l = Marking l.entries l.e-index l.cues
