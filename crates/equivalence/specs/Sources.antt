-- What the source of a read and the last write of an item are, told by places: among the entries as
-- they were made, and in the serial list of an order. The place 0 stands for the initial state.
--
--   EnteredBefore n p m q         == the entry of cue n at place p was made before that of m at q
--   SerialBefore o n p m q        == cue n comes before m in o, or they are the same and p < q
--   CommittedWrite es k n p       == n is committed, and at p writes an item that is the same as k
--   IsLast before P p             == at p stands the last of those with P
--   LastPlace before P p          == p is that place, or 0 where there are none
--   LastWriteIs before es k p     == p is the place of the last committed write of k
--   SourceIs before es k m q p    == p is that of the last before the entry of cue m at q
--   PlacesAreTold before es ps    == in the list ps the definitions find these places
--   KeepsPlaces es o              == in the serial list of o they are those of the entries as made
--   SourcesAreTold                == they do so in both lists
--   ViewIsTold                    == an order keeps the view exactly when it keeps these places,
--                                    and so does one that is shown
use Rattle.std.specs.Prelude.{◌≡◌, ℕ, zero, suc, ◌<◌, Bool, true, ◌⊎◌, List, ◌↔◌}
use Rattle.orders.specs.Least.{ComesBefore}
use Rattle.history.specs.declared.Entry.{Entry}
use Rattle.history.specs.Entries.{committed}
use Rattle.history.specs.Places.{ReadsAt, WritesAt}
use Rattle.history.specs.Views.{committed_list, serial_list, last_write, source_at}
use Rattle.history.specs.Answers.{ordered, IsOrder, KeepsView, ShownKeepsView}

abbrev pub EnteredBefore : (n p m q : ℕ) → Type 0
EnteredBefore n p m q = p < q

-- each cue's entries together, the cues in the order
abbrev pub SerialBefore : List ℕ → (n p m q : ℕ) → Type 0
SerialBefore o n p m q = ComesBefore n m o ⊎ ((n ≡ m) × (p < q))

-- entries by their cues and places, in the one order or the other
module _ (before : (n p m q : ℕ) → Type 0) where
  pub record IsLast (P : (n p : ℕ) → Type 0) (p : ℕ) : Type 0 where
    pub cue : ℕ
    pub passes : P cue p
    pub last : (m q : ℕ) → P m q → (q ≡ p) ⊎ before m q cue p

  abbrev pub LastPlace : (P : (n p : ℕ) → Type 0) → ℕ → Type 0
  LastPlace P zero = (m q : ℕ) → P m q → ⊥
  LastPlace P (suc i) = IsLast P (suc i)

module _ {K : Type 0} (alike : K → K → Bool) (es : List (Entry K)) where
  pub record CommittedWrite (k : K) (n p : ℕ) : Type 0 where
    pub commits : committed es n ≡ true
    pub item : K
    pub write : WritesAt es p n item
    pub same : alike k item ≡ true

  module _ (before : (n p m q : ℕ) → Type 0) where
    abbrev pub LastWriteIs : K → ℕ → Type 0
    LastWriteIs k p = LastPlace before (CommittedWrite k) p

    -- the last write of k before the entry of cue m at place q
    abbrev pub SourceIs : K → (m q p : ℕ) → Type 0
    SourceIs k m q p =
        LastPlace before (λ n r. CommittedWrite k n r × before n r m q) p

    pub record PlacesAreTold (ps : List (ℕ × Entry K)) : Type 0 where
      pub last : (k : K) (p : ℕ) → (last_write alike k ps ≡ p) ↔ LastWriteIs k p
      pub source :
          (k : K) (m q p : ℕ) → committed es m ≡ true → ReadsAt es q m k →
          (source_at alike k q ps ≡ p) ↔ SourceIs k m q p

  pub record KeepsPlaces (o : List ℕ) : Type 0 where
    pub sources :
        (k : K) (m q p : ℕ) → committed es m ≡ true → ReadsAt es q m k →
        SourceIs EnteredBefore k m q p → SourceIs (SerialBefore o) k m q p
    pub lasts :
        (k : K) (p : ℕ) → LastWriteIs EnteredBefore k p → LastWriteIs (SerialBefore o) k p

module _ (K : Type 0) where
  -- what is found in both lists is what their orders say
  pub record SourcesAreTold : Type 0 where
    pub entered :
        (alike : K → K → Bool) (es : List (Entry K)) →
        PlacesAreTold alike es EnteredBefore (committed_list es)
    pub serial :
        (alike : K → K → Bool) (es : List (Entry K)) (o : List ℕ) → IsOrder es o →
        PlacesAreTold alike es (SerialBefore o) (serial_list (committed_list es) o)

  -- an order keeps the view exactly when each committed read keeps its source, and each item its
  -- last write; and an order that is shown must do no less
  pub record ViewIsTold : Type 0 where
    pub kept :
        (alike : K → K → Bool) (es : List (Entry K)) (o : List ℕ) → IsOrder es o →
        KeepsView alike es o ↔ KeepsPlaces alike es o
    pub shown :
        (alike : K → K → Bool) (es : List (Entry K)) (o : List ℕ) → IsOrder es o →
        ShownKeepsView alike es (ordered o) ↔ KeepsPlaces alike es o
