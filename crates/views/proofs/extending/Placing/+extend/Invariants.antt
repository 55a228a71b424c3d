use Rattle.std.proofs.Common.{◌≡◌, length, drop}
use Rattle.views.specs.Shown.{rest_of}
use Rattle.views.proofs.Trying.{Tried}
use Rattle.views.proofs.extending.Placing.+extend.Given as goal

abbrev pub decreases-extend : goal.decreases-extend
decreases-extend l = length l.list.now

abbrev pub invariant-loop-x : goal.invariant-loop-x
invariant-loop-x l =
    (l.first ≡ l.initial.first) × (l.rest ≡ l.initial.rest)
    × (Tried l.self (drop l.x-index l.x-items) ≡ rest_of l.self)
