-- Whom a read reads from, and where the rules of recovery break, by places and acts.
--
--   ReadsFrom es i j p q          == the read at q, of cue i, reads from the write at p, of cue j:
--                                    i reads from j, so i stands at the later place
--   StrictnessBreaks es q         == at q a cue reads or writes what another wrote, not ended yet
--   CascadelessnessBreaks es q    == at q a cue reads from another, not committed yet
--   RecoverabilityBreaks es q     == at q a cue commits that read from another, not committed yet
--   IsFirstBreak Breaks q         == the rule breaks at place q, and nowhere before
--   Never Breaks                  == the rule breaks nowhere
--   IsClass es class              == the rule that keeps the entries from the next class breaks
--                                    first at the class's place, and the weaker rules never
use Rattle.std.specs.Prelude.{◌≡◌, ℕ, ◌<◌, ◌≤◌, Bool, true, ◌⊎◌, List, ◌≢◌}
use Rattle.history.specs.declared.Act.TheVariants.{Commit}
use Rattle.history.specs.declared.Entry.{Entry}
use Rattle.history.specs.Places.{EntryIs, ReadsAt, WritesAt, CommittedBefore, AbortedBefore}
use Rattle.history.specs.Places.{EndedBefore}
use Rattle.recovery.specs.declared.Class.{Class}
use Rattle.recovery.specs.declared.Class.TheVariants.{NotRecoverable, Recoverable, Cascadeless}
use Rattle.recovery.specs.declared.Class.TheVariants.{Strict}

abbrev pub Never : (ℕ → Type 0) → Type 0
Never Breaks = (q : ℕ) → Breaks q → ⊥

pub record IsFirstBreak (Breaks : ℕ → Type 0) (q : ℕ) : Type 0 where
  pub breaks : Breaks q
  pub first : (r : ℕ) → Breaks r → q ≤ r

module _ {K : Type 0} (alike : K → K → Bool) (es : List (Entry K)) where
  -- the last write of the item before the read, leaving out those of cues that had aborted by then
  pub record ReadsFrom (i j p q : ℕ) : Type 0 where
    pub item : K
    pub written : K
    pub reader : ReadsAt es q i item
    pub writer : WritesAt es p j written
    pub same : alike item written ≡ true
    pub before : p < q
    pub stands : AbortedBefore es q j → ⊥
    pub last :
        (r n : ℕ) (w : K) → p < r → r < q →
        WritesAt es r n w → alike item w ≡ true → AbortedBefore es q n

  pub record StrictnessBreaks (q : ℕ) : Type 0 where
    pub cue : ℕ
    pub other : ℕ
    pub place : ℕ
    pub item : K
    pub written : K
    pub here : ReadsAt es q cue item ⊎ WritesAt es q cue item
    pub there : WritesAt es place other written
    pub same : alike item written ≡ true
    pub before : place < q
    pub differ : other ≢ cue
    pub unended : EndedBefore es q other → ⊥

  pub record CascadelessnessBreaks (q : ℕ) : Type 0 where
    pub cue : ℕ
    pub other : ℕ
    pub place : ℕ
    pub reads : ReadsFrom cue other place q
    pub differ : other ≢ cue
    pub uncommitted : CommittedBefore es q other → ⊥

  pub record RecoverabilityBreaks (q : ℕ) : Type 0 where
    pub cue : ℕ
    pub other : ℕ
    pub place : ℕ
    pub read : ℕ
    pub commits : EntryIs es q cue Commit
    pub earlier : read < q
    pub reads : ReadsFrom cue other place read
    pub differ : other ≢ cue
    pub uncommitted : CommittedBefore es q other → ⊥

  abbrev pub IsClass : Class → Type 0
  IsClass (NotRecoverable q) = IsFirstBreak RecoverabilityBreaks q
  IsClass (Recoverable q) = IsFirstBreak CascadelessnessBreaks q × Never RecoverabilityBreaks
  IsClass (Cascadeless q) =
      IsFirstBreak StrictnessBreaks q × Never CascadelessnessBreaks × Never RecoverabilityBreaks
  IsClass Strict =
      Never StrictnessBreaks × Never CascadelessnessBreaks × Never RecoverabilityBreaks
