-- The ranks of the cues that a table marks. Assumes nothing.
use Rattle.std.specs.Prelude.{ℕ, ◌-◌, ◌==◌, Bool, if◌then◌else◌}
use Rattle.std.specs.Prelude.{List, Some, None, Option, slice_index_or}
use Rattle.std.specs.List.{position}
use Rattle.orders.specs.Orders.{among}
use Rattle.history.specs.Marked.{marked}

-- the rank of a cue among those that a table marks
abbrev pub rank_in : List Bool → ℕ → Option ℕ
rank_in cues n = position (λ m. m == n) (among (marked cues))

-- the rank that is noted in the cell of a cue's number, where the cue is marked
abbrev pub rank_noted : List Bool → List ℕ → ℕ → Option ℕ
rank_noted cues ranks n = if marked cues n then Some (slice_index_or ranks (n - 1) 0) else None
