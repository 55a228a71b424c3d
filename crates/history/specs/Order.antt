-- The order that conflicts put the committed cues in, and what stands in its way.
--
--   committed_cues es       == the committed cues in rising order
--   keeps es o              == the test whether the order o keeps every conflicting pair
--   conflict_order es       == the first order of the committed cues that does, if there is one
--   PutsBefore es i j p q   == the entry at p, of cue i, conflicts with the later one at q, of j
--   MustPrecede es i j      == there are such places
--   KeepsConflicts es o     == where such places put one committed cue before another, o has it so
--   ConflictCycle es c      == each of these committed cues must precede the next, the last
--                              the first
use Rattle.std.specs.Prelude.{◌≡◌, ℕ, ◌+◌, ◌-◌, ◌<◌, ◌≤◌, Bool, true, not, ◌&&◌, ◌||◌, List, ◌++◌}
use Rattle.std.specs.Prelude.{length, Some, None, Option, ◌==◌, ◌≢◌, ◌↔◌, slice_index}
use Rattle.lists.specs.Lists.{every_pair, some_pair}
use Rattle.history.specs.declared.Entry.{Entry}
use Rattle.history.specs.Conflicts.{conflict}
use Rattle.history.specs.Entries.{committed}
use Rattle.history.specs.Places.{entry_at}
use Rattle.orders.specs.Orders.{among, first_where, orders, precedes}
use Rattle.orders.specs.Least.{ComesBefore}

abbrev pub committed_cues : {K : Type 0} → List (Entry K) → List ℕ
committed_cues es = among (committed es)

module _ {K : Type 0} (alike : K → K → Bool) where
  -- two entries that conflict, both of committed cues
  abbrev pub binds : List (Entry K) → Entry K → Entry K → Bool
  binds es x y = committed es x.cue && (committed es y.cue && conflict alike x y)

  abbrev pub keeps : List (Entry K) → List ℕ → Bool
  keeps es o = every_pair (λ x y. not (binds es x y) || precedes x.cue y.cue o) es

  abbrev pub conflict_order : List (Entry K) → Option (List ℕ)
  conflict_order es = first_where (keeps es) (orders (committed_cues es))

  -- an entry of cue i, and a later one of cue j that conflicts with it
  abbrev pub joins : ℕ → ℕ → Entry K → Entry K → Bool
  joins i j x y = x.cue == i && (y.cue == j && conflict alike x y)

  abbrev pub arrow : List (Entry K) → ℕ → ℕ → Bool
  arrow es i j = some_pair (joins i j) es

  module _ (es : List (Entry K)) where
    pub record PutsBefore (i j p q : ℕ) : Type 0 where
      pub earlier : Entry K
      pub later : Entry K
      pub first : entry_at es p ≡ Some earlier
      pub second : entry_at es q ≡ Some later
      pub before : p < q
      pub from : earlier.cue ≡ i
      pub to : later.cue ≡ j
      pub clash : conflict alike earlier later ≡ true

    pub record MustPrecede (i j : ℕ) : Type 0 where
      pub p : ℕ
      pub q : ℕ
      pub puts : PutsBefore i j p q

    abbrev pub KeepsConflicts : List ℕ → Type 0
    KeepsConflicts o =
        (i j p q : ℕ) →
        committed es i ≡ true → committed es j ≡ true → PutsBefore i j p q → ComesBefore i j o

    -- two or more cues, no two the same
    pub record ConflictCycle (c : List ℕ) : Type 0 where
      pub two : 2 ≤ length c
      pub members : (i : ℕ) → i < length c → committed es (slice_index c i) ≡ true
      pub distinct : (i j : ℕ) → i < j → j < length c → slice_index c i ≢ slice_index c j
      pub steps : (i : ℕ) → i + 1 < length c → MustPrecede (slice_index c i) (slice_index c (i + 1))
      pub closes : MustPrecede (slice_index c (length c - 1)) (slice_index c 0)

-- the test tells of places: an order passes exactly when it keeps each two that conflict
abbrev pub KeepsIsKeepsConflicts : Type 0 → Type 0
KeepsIsKeepsConflicts K =
    (alike : K → K → Bool) (es : List (Entry K)) (o : List ℕ) →
    (keeps alike es o ≡ true) ↔ KeepsConflicts alike es o

-- where there is a cycle there is no such order, whatever is entered after it
abbrev pub CycleLasts : Type 0 → Type 0
CycleLasts K =
    (alike : K → K → Bool) (es more : List (Entry K)) (c : List ℕ) →
    ConflictCycle alike es c → conflict_order alike (es ++ more) ≡ None
