use Rattle.std.proofs.Common.{◌≡◌, ◌≤◌, drop}
use Rattle.columns.specs.Columns.{digits_from, up_to}
use Rattle.columns.proofs.value.Given as goal

abbrev pub invariant-loop-b : goal.invariant-loop-b
invariant-loop-b l =
    (up_to l.most (digits_from l.n (drop l.b-index l.digits)) ≡ up_to l.most (digits_from 0 l.digits))
    × (l.n ≤ l.most)
