use Rattle.std.proofs.Common.{◌≡◌, length}
use Rattle.serial.proofs.Drawing.{Drew}
use Rattle.serial.proofs.arrows.conflict_graph.Given as goal

abbrev pub invariant-loop-p : goal.invariant-loop-p
invariant-loop-p g l = (length l.edges ≡ 64) × Drew g.K.Item.alike l.cues l.entries l.p l.edges
