-- Laws of breaks and classes.
use Rattle.std.specs.Prelude.{◌≡◌, ℕ, ◌<◌, ◌≤◌, Bool, true, false, List, ◌++◌, length, Some, None}
use Rattle.std.specs.Prelude.{◌↔◌, ◌≢◌, ◌⊎◌}
use Rattle.history.specs.declared.Entry.{Entry}
use Rattle.history.specs.declared.Act.{Act}
use Rattle.history.specs.declared.Act.TheVariants.{Read, Write, Commit, Abort}
use Rattle.history.specs.Places.{IsCue, entries_before, EntryIs, ReadsAt, WritesAt, AbortedBefore}
use Rattle.history.specs.Places.{EndedBefore}
use Rattle.recovery.specs.Breaks.{breaks, source, breaks_recoverable, breaks_cascadeless}
use Rattle.recovery.specs.Breaks.{breaks_strict}
use Rattle.recovery.specs.declared.Class.{Class}
use Rattle.recovery.specs.declared.Class.TheVariants.{Strict}
use Rattle.recovery.specs.Classes.{class_number, class_place, class_of, first_break}
use Rattle.recovery.specs.ReadsFrom.{Never, IsFirstBreak, ReadsFrom, StrictnessBreaks}
use Rattle.recovery.specs.ReadsFrom.{CascadelessnessBreaks, RecoverabilityBreaks, IsClass}

module _ {K : Type 0} (alike : K → K → Bool) (es : List (Entry K)) where
  -- the number of c says which rules never break in these entries, and its place where the next
  -- rule breaks first; the place is 0 exactly when no rule breaks
  pub record IsNumbered (c : Class) : Type 0 where
    pub most : class_number c ≤ 3
    pub strict : (class_number c ≡ 3) ↔ Never (StrictnessBreaks alike es)
    pub cascadeless : (2 ≤ class_number c) ↔ Never (CascadelessnessBreaks alike es)
    pub recoverable : (1 ≤ class_number c) ↔ Never (RecoverabilityBreaks alike es)
    pub no_place : (class_place c ≡ 0) ↔ Never (StrictnessBreaks alike es)
    pub not_strict :
        class_number c ≡ 2 → (p : ℕ) →
        (p ≡ class_place c) ↔ IsFirstBreak (StrictnessBreaks alike es) p
    pub not_cascadeless :
        class_number c ≡ 1 → (p : ℕ) →
        (p ≡ class_place c) ↔ IsFirstBreak (CascadelessnessBreaks alike es) p
    pub not_recoverable :
        class_number c ≡ 0 → (p : ℕ) →
        (p ≡ class_place c) ↔ IsFirstBreak (RecoverabilityBreaks alike es) p

-- a serial history: after an entry of a cue, others have entries only when that cue has ended
abbrev pub OneByOne : {K : Type 0} → List (Entry K) → Type 0
OneByOne {K} es =
    (p q m n : ℕ) (a b : Act K) → EntryIs es p m a → EntryIs es q n b → p < q → m ≢ n →
    EndedBefore es q m

-- a cue n has its entries with the act a after place q, or has none
abbrev pub OnlyAfter : {K : Type 0} → List (Entry K) → ℕ → ℕ → Act K → Type 0
OnlyAfter es q n a = IsCue n → (s : ℕ) → EntryIs es s n a → q < s

module _ (K : Type 0) where
  -- whether a place is a break depends on the entries up to it alone
  abbrev pub BreaksStay : Type 0
  BreaksStay = (rule : List (Entry K) → Entry K → Bool) (es more : List (Entry K)) (p : ℕ) → p ≤ length es → breaks rule (es ++ more) p ≡ breaks rule es p

  -- the first break of a rule is a break, and no place before it is; where there is none, no place is
  pub record FirstBreak : Type 0 where
    pub found : (rule : List (Entry K) → Entry K → Bool) (es : List (Entry K)) (p : ℕ) → first_break rule es ≡ Some p → breaks rule es p ≡ true
    pub least : (rule : List (Entry K) → Entry K → Bool) (es : List (Entry K)) (p q : ℕ) → first_break rule es ≡ Some p → q < p → breaks rule es q ≡ false
    pub without : (rule : List (Entry K) → Entry K → Bool) (es : List (Entry K)) (q : ℕ) → first_break rule es ≡ None → breaks rule es q ≡ false

  -- strict implies cascadeless implies recoverable: a break of one comes with a break of the next
  pub record BreaksComeTogether : Type 0 where
    pub cascadeless : (alike : K → K → Bool) (es : List (Entry K)) (q : ℕ) → breaks (breaks_recoverable alike) es q ≡ true → (p : ℕ) × (p < q) × (breaks (breaks_cascadeless alike) es p ≡ true)
    pub strict : (alike : K → K → Bool) (es : List (Entry K)) (q : ℕ) → breaks (breaks_cascadeless alike) es q ≡ true → breaks (breaks_strict alike) es q ≡ true

  -- as the book grows, its class never rises
  abbrev pub ClassNeverRises : Type 0
  ClassNeverRises = (alike : K → K → Bool) (es more : List (Entry K)) → class_number (class_of alike (es ++ more)) ≤ class_number (class_of alike es)

  -- the source that the tests find, with its place, is the write that the read reads from
  pub record SourceIsReadFrom : Type 0 where
    pub found :
        (alike : K → K → Bool) (es : List (Entry K)) (i q : ℕ) (k : K) (r : ℕ × Entry K) →
        ReadsAt es q i k → source alike (entries_before q es) k ≡ Some r →
        ReadsFrom alike es i r.1.cue r.0 q
    pub only :
        (alike : K → K → Bool) (es : List (Entry K)) (i j p q : ℕ) →
        (f : ReadsFrom alike es i j p q) →
        source alike (entries_before q es) f.item ≡ Some (p, record { cue = j; act = f.writer.act })

  -- a read reads from one write at most; where a cue that has not aborted wrote the item before it,
  -- the read reads from that write or a later one
  pub record ReadHasOneSource : Type 0 where
    pub one :
        (alike : K → K → Bool) (es : List (Entry K)) (i j m n p q r : ℕ) →
        ReadsFrom alike es i j p q → ReadsFrom alike es m n r q → (i ≡ m) × (j ≡ n) × (p ≡ r)
    pub any :
        (alike : K → K → Bool) (es : List (Entry K)) (i n p q : ℕ) (k w : K) →
        ReadsAt es q i k → WritesAt es p n w → alike k w ≡ true → p < q →
        (AbortedBefore es q n → ⊥) →
        (j : ℕ) × (r : ℕ) × (p ≤ r) × ReadsFrom alike es i j r q

  -- a cue that has not aborted reads its own last write of the item, unless another cue that has
  -- not aborted wrote it since; and such a read is no break of cascadelessness, though it may be
  -- one of strictness
  pub record OwnWriteIsRead : Type 0 where
    pub own :
        (alike : K → K → Bool) (es : List (Entry K)) (i p q : ℕ) (k w : K) →
        ReadsAt es q i k → WritesAt es p i w → alike k w ≡ true → p < q →
        (AbortedBefore es q i → ⊥) →
        ((r n : ℕ) (v : K) → p < r → r < q → WritesAt es r n v → alike k v ≡ true →
        AbortedBefore es q n) →
        ReadsFrom alike es i i p q
    pub unbroken :
        (alike : K → K → Bool) (es : List (Entry K)) (i p q : ℕ) →
        ReadsFrom alike es i i p q → CascadelessnessBreaks alike es q → ⊥

  -- where the rules break, by the acts there: recoverability only at a commit, cascadelessness only
  -- at a read, and strictness only at a read or a write; and there they do break, where the other
  -- cue commits, or ends, later or never
  pub record BreaksAreAtTheirActs : Type 0 where
    pub recoverable :
        (alike : K → K → Bool) (es : List (Entry K)) (q : ℕ) →
        RecoverabilityBreaks alike es q
        ↔ ((i : ℕ) × (j : ℕ) × (p : ℕ) × (r : ℕ) × EntryIs es q i Commit
        × ReadsFrom alike es i j p r × (r < q) × (j ≢ i) × OnlyAfter es q j Commit)
    pub cascadeless :
        (alike : K → K → Bool) (es : List (Entry K)) (q : ℕ) →
        CascadelessnessBreaks alike es q
        ↔ ((i : ℕ) × (j : ℕ) × (p : ℕ) × (k : K) × EntryIs es q i (Read k)
        × ReadsFrom alike es i j p q × (j ≢ i) × OnlyAfter es q j Commit)
    pub strict :
        (alike : K → K → Bool) (es : List (Entry K)) (q : ℕ) →
        StrictnessBreaks alike es q
        ↔ ((i : ℕ) × (j : ℕ) × (p : ℕ) × (k : K) × (w : K)
        × (EntryIs es q i (Read k) ⊎ EntryIs es q i (Write k)) × EntryIs es p j (Write w)
        × (alike k w ≡ true) × (p < q) × (j ≢ i)
        × OnlyAfter es q j Commit × OnlyAfter es q j Abort)

  -- the tests of breaks tell of places: each is the break that is told by whom a read reads from
  pub record BreaksAreByPlaces : Type 0 where
    pub strict :
        (alike : K → K → Bool) (es : List (Entry K)) (q : ℕ) →
        (breaks (breaks_strict alike) es q ≡ true) ↔ StrictnessBreaks alike es q
    pub cascadeless :
        (alike : K → K → Bool) (es : List (Entry K)) (q : ℕ) →
        (breaks (breaks_cascadeless alike) es q ≡ true) ↔ CascadelessnessBreaks alike es q
    pub recoverable :
        (alike : K → K → Bool) (es : List (Entry K)) (q : ℕ) →
        (breaks (breaks_recoverable alike) es q ≡ true) ↔ RecoverabilityBreaks alike es q

  -- the class, with its place, is the one that these breaks give, and they give no other
  abbrev pub ClassIsByPlaces : Type 0
  ClassIsByPlaces =
      (alike : K → K → Bool) (es : List (Entry K)) (c : Class) →
      IsClass alike es c ↔ (c ≡ class_of alike es)

  -- the number of the class, and its place, tell of the breaks
  abbrev pub ClassIsNumbered : Type 0
  ClassIsNumbered =
      (alike : K → K → Bool) (es : List (Entry K)) → IsNumbered alike es (class_of alike es)

  -- a serial history is strict
  abbrev pub SerialIsStrict : Type 0
  SerialIsStrict =
      (alike : K → K → Bool) (es : List (Entry K)) → OneByOne es → class_of alike es ≡ Strict
