-- Cues marked in a table. Assumes nothing.
use Rattle.std.specs.Prelude.{ℕ, ◌-◌, Bool, false, ◌&&◌, List, slice_index_or}
use Rattle.history.specs.Entries.{is_cue}

-- the table has the cue
abbrev pub marked : List Bool → ℕ → Bool
marked cues n = is_cue n && slice_index_or cues (n - 1) false
