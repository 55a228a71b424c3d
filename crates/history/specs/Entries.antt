-- What the entries of a book say of a cue. Assumes nothing.
use Rattle.std.specs.Prelude.{ℕ, Bool, true, false, not, ◌&&◌, ◌||◌, List, ◌==◌, nat_le}
use Rattle.lists.specs.Lists.{some}
use Rattle.history.specs.declared.Act.{Act}
use Rattle.history.specs.declared.Act.TheVariants.{Read, Write, Commit, Abort}
use Rattle.history.specs.declared.Entry.{Entry}

-- cues are numbered 1 to 64
abbrev pub is_cue : ℕ → Bool
is_cue n = nat_le 1 n && nat_le n 64

module _ {K : Type 0} where
  abbrev pub is_commit : Act K → Bool
  is_commit (Read k) = false
  is_commit (Write k) = false
  is_commit Commit = true
  is_commit Abort = false

  abbrev pub is_abort : Act K → Bool
  is_abort (Read k) = false
  is_abort (Write k) = false
  is_abort Commit = false
  is_abort Abort = true

  abbrev pub ends : Act K → Bool
  ends a = is_commit a || is_abort a

  -- an entry of the cue whose act passes
  abbrev pub by : ℕ → (Act K → Bool) → Entry K → Bool
  by n test e = e.cue == n && test e.act

  -- the cue has such an entry
  abbrev pub acted : (Act K → Bool) → List (Entry K) → ℕ → Bool
  acted test es n = is_cue n && some (by n test) es

  abbrev pub committed : List (Entry K) → ℕ → Bool
  committed es n = acted is_commit es n

  abbrev pub aborted : List (Entry K) → ℕ → Bool
  aborted es n = acted is_abort es n

  abbrev pub ended : List (Entry K) → ℕ → Bool
  ended es n = acted ends es n

  abbrev pub opened : List (Entry K) → ℕ → Bool
  opened es n = acted (λ a. true) es n && not (ended es n)
