-- The graph of conflicts, in tables of cues. Assumes nothing.
use Rattle.std.specs.Prelude.{◌≡◌, ℕ, ◌-◌, Bool, ◌&&◌, ◌||◌, List, [], slice_index_or}
use Rattle.lists.specs.Lists.{some}
use Rattle.history.specs.declared.Entry.{Entry}
use Rattle.history.specs.Entries.{is_cue, committed}
use Rattle.history.specs.Marked.{marked}
use Rattle.serial.specs.declared.arrows.ConflictGraph.{ConflictGraph}
use Rattle.history.specs.Order.{joins, arrow}

-- the cues that have an edge from each cue have this one
abbrev pub drawn : List (List Bool) → ℕ → ℕ → Bool
drawn edges i j = is_cue i && marked (slice_index_or edges (i - 1) []) j

module _ {K : Type 0} (alike : K → K → Bool) where
  -- the row has, with what it had, those of the later entries' cues that are marked and conflict with x, and no others
  abbrev pub Adds : (cues row row' : List Bool) → Entry K → List (Entry K) → Type 0
  Adds cues row row' x later = (j : ℕ) → marked row' j ≡ (marked row j || (marked cues j && some (joins alike x.cue j x) later))

  -- the graph has the committed cues, and an edge wherever there is an arrow between two of them, and nowhere else
  pub record Draws (es : List (Entry K)) (g : ConflictGraph) : Type 0 where
    pub numbers : (n : ℕ) → marked g.cues n ≡ committed es n
    pub edges : (i j : ℕ) → drawn g.edges i j ≡ (committed es i && (committed es j && arrow alike es i j))
