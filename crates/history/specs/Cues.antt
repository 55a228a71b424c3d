-- What the entries of a book say of a number, by places and acts: cues are numbered 1 to 64, and of
-- another number entries say nothing.
--
--   Did es n a       == n is a cue, and it has an entry with the act a
--   HasEntry es n    == n is a cue, and it has an entry
--   HasEnded es n    == n is a cue, and it has a commit or an abort
--   CueIsTold K      == the tests of a number say this: which numbers are cues, what a cue did,
--                       whether a table has it, and which cues are listed as committed, in
--                       rising order
--   EndingIsTold K   == a commit and an abort end a cue, no other act does, and each is the act of
--                       the ending of its name
use Rattle.std.specs.Prelude.{◌≡◌, ℕ, suc, ◌-◌, ◌<◌, Bool, true, ◌⊎◌, List, length}
use Rattle.std.specs.Prelude.{Some, slice_get, ◌↔◌}
use Rattle.orders.specs.Least.{Stands}
use Rattle.history.specs.declared.Act.{Act}
use Rattle.history.specs.declared.Act.TheVariants as act
use Rattle.history.specs.declared.Ending.{Ending}
use Rattle.history.specs.declared.Ending.TheVariants as ending
use Rattle.history.specs.declared.Entry.{Entry}
use Rattle.history.specs.Endings.{act_of}
use Rattle.history.specs.Entries.{is_cue, is_commit, is_abort, ends, acted, committed, aborted}
use Rattle.history.specs.Entries.{ended, opened}
use Rattle.history.specs.Marked.{marked}
use Rattle.history.specs.Order.{committed_cues}
use Rattle.history.specs.Places.{IsCue, DidBefore}

module _ {K : Type 0} (es : List (Entry K)) (n : ℕ) where
  abbrev pub Did : Act K → Type 0
  Did a = DidBefore es (suc (length es)) n a

  abbrev pub HasEntry : Type 0
  HasEntry = (a : Act K) × Did a

  abbrev pub HasEnded : Type 0
  HasEnded = Did act.Commit ⊎ Did act.Abort

module _ (K : Type 0) where
  pub record CueIsTold : Type 0 where
    pub number : (n : ℕ) → (is_cue n ≡ true) ↔ IsCue n
    pub has_entry :
        (es : List (Entry K)) (n : ℕ) → (acted (λ a. true) es n ≡ true) ↔ HasEntry es n
    pub did_commit :
        (es : List (Entry K)) (n : ℕ) → (committed es n ≡ true) ↔ Did es n act.Commit
    pub did_abort :
        (es : List (Entry K)) (n : ℕ) → (aborted es n ≡ true) ↔ Did es n act.Abort
    pub did_end : (es : List (Entry K)) (n : ℕ) → (ended es n ≡ true) ↔ HasEnded es n
    -- an open cue has an entry, and has not ended
    pub is_open :
        (es : List (Entry K)) (n : ℕ) →
        (opened es n ≡ true) ↔ (HasEntry es n × (HasEnded es n → ⊥))
    -- the cell of cue n is the n-th
    pub in_table :
        (cues : List Bool) (n : ℕ) →
        (marked cues n ≡ true) ↔ (IsCue n × (slice_get cues (n - 1) ≡ Some true))
    -- the list has the cues with a commit, and rises, so each stands in it once
    pub is_listed :
        (es : List (Entry K)) (n : ℕ) → Stands n (committed_cues es) ↔ Did es n act.Commit
    pub list_rises :
        (es : List (Entry K)) (i j a b : ℕ) → i < j →
        slice_get (committed_cues es) i ≡ Some a → slice_get (committed_cues es) j ≡ Some b → a < b

  pub record EndingIsTold : Type 0 where
    pub commit_alone : (a : Act K) → (is_commit a ≡ true) ↔ (a ≡ act.Commit)
    pub abort_alone : (a : Act K) → (is_abort a ≡ true) ↔ (a ≡ act.Abort)
    pub these_two : (a : Act K) → (ends a ≡ true) ↔ ((a ≡ act.Commit) ⊎ (a ≡ act.Abort))
    -- the act of an ending is a commit exactly for a commit, and an abort exactly for an abort
    pub by_commit : (e : Ending) → (act_of {K = K} e ≡ act.Commit) ↔ (e ≡ ending.Commit)
    pub by_abort : (e : Ending) → (act_of {K = K} e ≡ act.Abort) ↔ (e ≡ ending.Abort)
