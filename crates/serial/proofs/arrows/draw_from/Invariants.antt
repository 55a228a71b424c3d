use Rattle.std.proofs.Common.{◌≡◌, length}
use Rattle.serial.proofs.Drawing.{Drawing}
use Rattle.serial.proofs.arrows.draw_from.Given as goal

abbrev pub invariant-loop-y : goal.invariant-loop-y
invariant-loop-y g l = (length l.row ≡ 64) × Drawing g.K.Item.alike l.cues l.x l.later l.y-index l.initial.row l.row
