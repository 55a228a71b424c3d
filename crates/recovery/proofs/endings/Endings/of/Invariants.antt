use Rattle.std.proofs.Common.{◌≡◌, length, take}
use Rattle.recovery.proofs.Tables.{Firsts}
use Rattle.recovery.proofs.endings.Endings.of.Given as goal

abbrev pub invariant-loop-i : goal.invariant-loop-i
invariant-loop-i g l = (length l.cues ≡ 64) × Firsts (take l.i l.entries) l.cues
