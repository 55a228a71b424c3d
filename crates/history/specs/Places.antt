-- Entries by their places, which count from 1, and what stands before a place.
--
--   IsCue n                 == n is the number of a cue: it is from 1 to 64
--   entry_at es p           == the entry at place p, if there is one
--   entries_before q es     == the entries before place q
--   EntryIs es p n a        == the entry at place p is of cue n, and its act is a
--   ReadsAt es p n k        == at place p cue n reads the item k
--   WritesAt es p n k       == at place p cue n writes the item k
--   DidBefore es q n a      == n is a cue, and before place q it has an entry with the act a
--   CommittedBefore es q n  == before place q cue n had committed
--   AbortedBefore es q n    == before place q cue n had aborted
--   EndedBefore es q n      == before place q cue n had committed or aborted
use Rattle.std.specs.Prelude.{◌≡◌, ℕ, zero, suc, ◌<◌, ◌≤◌, ◌⊎◌, List, [], take, Some, None, Option}
use Rattle.std.specs.Prelude.{slice_get}
use Rattle.history.specs.declared.Act.{Act}
use Rattle.history.specs.declared.Act.TheVariants.{Read, Write, Commit, Abort}
use Rattle.history.specs.declared.Entry.{Entry}

pub record IsCue (n : ℕ) : Type 0 where
  pub low : 1 ≤ n
  pub high : n ≤ 64

module _ {K : Type 0} where
  abbrev pub entry_at : List (Entry K) → ℕ → Option (Entry K)
  entry_at es zero = None
  entry_at es (suc i) = slice_get es i

  abbrev pub entries_before : ℕ → List (Entry K) → List (Entry K)
  entries_before zero es = []
  entries_before (suc i) es = take i es

  abbrev pub EntryIs : List (Entry K) → ℕ → ℕ → Act K → Type 0
  EntryIs es p n a = entry_at es p ≡ Some (record { cue = n; act = a })

  -- the item that an act reads, and the item that it writes
  abbrev pub item_read : Act K → Option K
  item_read (Read k) = Some k
  item_read (Write k) = None
  item_read Commit = None
  item_read Abort = None

  abbrev pub item_written : Act K → Option K
  item_written (Read k) = None
  item_written (Write k) = Some k
  item_written Commit = None
  item_written Abort = None

  pub record ReadsAt (es : List (Entry K)) (p n : ℕ) (k : K) : Type 0 where
    pub act : Act K
    pub entry : EntryIs es p n act
    pub item : item_read act ≡ Some k

  pub record WritesAt (es : List (Entry K)) (p n : ℕ) (k : K) : Type 0 where
    pub act : Act K
    pub entry : EntryIs es p n act
    pub item : item_written act ≡ Some k

  pub record DidBefore (es : List (Entry K)) (q n : ℕ) (a : Act K) : Type 0 where
    pub cue : IsCue n
    pub place : ℕ
    pub before : place < q
    pub entry : EntryIs es place n a

  abbrev pub CommittedBefore : List (Entry K) → ℕ → ℕ → Type 0
  CommittedBefore es q n = DidBefore es q n Commit

  abbrev pub AbortedBefore : List (Entry K) → ℕ → ℕ → Type 0
  AbortedBefore es q n = DidBefore es q n Abort

  abbrev pub EndedBefore : List (Entry K) → ℕ → ℕ → Type 0
  EndedBefore es q n = CommittedBefore es q n ⊎ AbortedBefore es q n
