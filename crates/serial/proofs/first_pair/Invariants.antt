use Rattle.std.proofs.Common.{◌≡◌, ◌+◌, drop}
use Rattle.lists.specs.Lists.{or_else}
use Rattle.serial.specs.Why.{pair_with, pair_from, why_of}
use Rattle.serial.proofs.first_pair.Given as goal

abbrev pub invariant-loop-p : goal.invariant-loop-p
invariant-loop-p g l = pair_from g.K.Item.alike l.i l.j (l.p + 1) (drop l.p l.entries) ≡ why_of g.K.Item.alike l.entries l.i l.j

abbrev pub invariant-loop-q : goal.invariant-loop-q
invariant-loop-q g l =
    or_else (pair_with g.K.Item.alike l.j l.x (l.p + 1) (l.p + 2 + l.q) (drop l.q l.later)) (pair_from g.K.Item.alike l.i l.j (l.p + 2) (drop (l.p + 1) l.entries))
    ≡ why_of g.K.Item.alike l.entries l.i l.j
