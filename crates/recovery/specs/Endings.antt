-- Where each cue first commits and first aborts. Assumes nothing.
use Rattle.std.specs.Prelude.{◌≡◌, ℕ, ◌-◌, ◌≤◌, Bool, true, false, ◌&&◌, List, length, take, Some, None, Option, nat_lt, slice_index_or}
use Rattle.history.specs.declared.Act.{Act}
use Rattle.history.specs.declared.Ending.{Ending}
use Rattle.history.specs.declared.Ending.TheVariants.{Commit, Abort}
use Rattle.history.specs.declared.Entry.{Entry}
use Rattle.history.specs.Entries.{is_cue, is_commit, is_abort, acted}
use Rattle.recovery.specs.declared.endings.Ends.{Ends}
use Rattle.recovery.specs.declared.endings.Endings.{Endings}

-- the act ends a cue so
abbrev pub ends_by : {K : Type 0} → Ending → Act K → Bool
ends_by Commit a = is_commit a
ends_by Abort a = is_abort a

-- the index of the first such ending
abbrev pub first_of : Ending → Ends → Option ℕ
first_of Commit ends = ends.commit
first_of Abort ends = ends.abort

-- an act with index i that passes is the first, unless there was one
abbrev pub first_noted : Option ℕ → Bool → ℕ → Option ℕ
first_noted (Some at) passes i = Some at
first_noted None true i = Some i
first_noted None false i = None

abbrev pub is_below : Option ℕ → ℕ → Bool
is_below None i = false
is_below (Some at) i = nat_lt at i

-- of a cue that has not ended
abbrev pub open_ends : Ends
open_ends = record { commit = None; abort = None }

-- the table says that the cue ended so before the entry with index i
abbrev pub ended_before : Ending → Endings → ℕ → ℕ → Bool
ended_before how endings n i = is_cue n && is_below (first_of how (slice_index_or endings.cues (n - 1) open_ends)) i

-- the table has each cue's first ending of each kind, and no other: of a front of any length it tells which cues ended there, and how
abbrev pub Notes : {K : Type 0} → List (Entry K) → Endings → Type 0
Notes es endings = (how : Ending) (n i : ℕ) → acted (ends_by how) (take i es) n ≡ ended_before how endings n i

-- of each front of the entries the table tells which cues ended there, and how; what came after these entries it may have too
abbrev pub Tells : {K : Type 0} → List (Entry K) → Endings → Type 0
Tells es endings = (how : Ending) (n i : ℕ) → i ≤ length es → acted (ends_by how) (take i es) n ≡ ended_before how endings n i
