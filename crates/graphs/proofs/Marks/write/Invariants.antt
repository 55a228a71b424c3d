use Rattle.std.proofs.Common.{◌≡◌, ℕ, ◌<◌, List, length, get_or, drop}
use Rattle.graphs.specs.Rows.{Marked}
use Rattle.graphs.proofs.Marks.write.Given as goal

abbrev pub invariant-loop-m : goal.invariant-loop-m
invariant-loop-m g l =
    ((xs : List ℕ) → length xs ≡ l.row.size → Marked l.row.base xs l.self.strip.now → (i : ℕ) → i < l.row.size → get_or xs i 0 < l.m → get_or l.list i 0 ≡ get_or xs i 0)
    × (drop l.row.size l.list ≡ drop l.row.size l.initial.list)
