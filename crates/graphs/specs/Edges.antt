-- What it is to follow every edge of a graph, and what a cycle is. Assumes nothing.
use Rattle.std.specs.Prelude.{◌≡◌, ℕ, ◌+◌, ◌-◌, ◌<◌, ◌≤◌, Bool, true, false, not, ◌&&◌, ◌||◌, List, [], ◌∷◌, length, Decides, ◌≢◌, slice_index}

-- some number of us has an edge to x
abbrev pub leads : (ℕ → ℕ → Bool) → List ℕ → ℕ → Bool
leads edge [] x = false
leads edge (u ∷ us) x = edge u x || leads edge us x

-- no edge runs from a number of the order to itself or to one before it
abbrev pub follows : (ℕ → ℕ → Bool) → List ℕ → Bool
follows edge [] = true
follows edge (x ∷ rest) = not (leads edge (x ∷ rest) x) && follows edge rest

-- distinct numbers of the graph, each with an edge to the next, and the last to the first
pub record IsCycle (has : ℕ → Bool) (edge : ℕ → ℕ → Bool) (cells : List ℕ) : Type 0 where
  pub some : 0 < length cells
  pub members : (i : ℕ) → i < length cells → (1 ≤ slice_index cells i) × (slice_index cells i ≤ 64) × (has (slice_index cells i) ≡ true)
  pub distinct : (i j : ℕ) → i < j → j < length cells → slice_index cells i ≢ slice_index cells j
  pub steps : (i : ℕ) → i + 1 < length cells → edge (slice_index cells i) (slice_index cells (i + 1)) ≡ true
  pub closes : edge (slice_index cells (length cells - 1)) (slice_index cells 0) ≡ true

-- that is: an edge between numbers of the order runs forward
abbrev pub FollowsForward : Type 0
FollowsForward = (edge : ℕ → ℕ → Bool) (o : List ℕ) → Decides (follows edge o) ((i j : ℕ) → i ≤ j → j < length o → edge (slice_index o j) (slice_index o i) ≡ false)
