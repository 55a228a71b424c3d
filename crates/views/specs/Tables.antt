-- The constraints between no more than eight committed cues, in tables. Assumes nothing.
use Rattle.std.specs.Prelude.{◌≡◌, ℕ, ◌+◌, ◌*◌, Bool, true, false, ◌||◌}
use Rattle.std.specs.Prelude.{List, Some, None, Option, slice_index_or}
use Rattle.history.specs.declared.Entry.{Entry}
use Rattle.history.specs.Entries.{committed}
use Rattle.history.specs.Marked.{marked}
use Rattle.equivalence.specs.Constraints.{hides, ahead, apart, is_hidden, is_ahead, is_apart}
use Rattle.views.specs.Ranks.{rank_in}
use Rattle.views.specs.declared.constraints.Constraints.{Constraints}

-- one more digit, of base 8
abbrev pub digit : Option ℕ → Option ℕ → Option ℕ
digit None r = None
digit (Some n) None = None
digit (Some n) (Some r) = Some (n * 8 + r)

-- the ranks of two cues as the digits of a number, and of three
abbrev pub pair_in : List Bool → ℕ → ℕ → Option ℕ
pair_in cues a b = digit (rank_in cues a) (rank_in cues b)

abbrev pub triple_in : List Bool → ℕ → ℕ → ℕ → Option ℕ
triple_in cues j r n = digit (pair_in cues j r) (rank_in cues n)

-- the cell is there and true
abbrev pub told : List Bool → Option ℕ → Bool
told cells None = false
told cells (Some at) = slice_index_or cells at false

-- a must come before b
abbrev pub ahead_in : Constraints → ℕ → ℕ → Bool
ahead_in t a b = told t.ahead (pair_in t.members.cues a b)

-- n must not stand between j and r
abbrev pub apart_in : Constraints → ℕ → ℕ → ℕ → Bool
apart_in t j r n = told t.apart (triple_in t.members.cues j r n)

module _ {K : Type 0} (alike : K → K → Bool) where
  -- the tables have what they had, and what the entry e asks, whose source is not hidden
  pub record Asks (t t' : Constraints) (before : List (Entry K)) (e : Entry K) (after : List (Entry K)) : Type 0 where
    pub members : t'.members ≡ t.members
    pub shown : hides alike (marked t.members.cues) before e after ≡ false
    pub ahead : (a b : ℕ) → ahead_in t' a b ≡ (ahead_in t a b || ahead alike (marked t.members.cues) a b before e after)
    pub apart : (j r n : ℕ) → apart_in t' j r n ≡ (apart_in t j r n || apart alike (marked t.members.cues) j r n before e after)

  -- the same, or none where the source is hidden in every order
  abbrev pub Asked : Constraints → Constraints → List (Entry K) → Entry K → List (Entry K) → Option (Unit {0}) → Type 0
  Asked t t' before e after None = hides alike (marked t.members.cues) before e after ≡ true
  Asked t t' before e after (Some u) = Asks t t' before e after

-- the tables have what the whole book asks
pub record Holds {K : Type 0} (alike : K → K → Bool) (es : List (Entry K)) (t : Constraints) : Type 0 where
  pub cues : (n : ℕ) → marked t.members.cues n ≡ committed es n
  pub shown : is_hidden alike es ≡ false
  pub ahead : (a b : ℕ) → ahead_in t a b ≡ is_ahead alike es a b
  pub apart : (j r n : ℕ) → apart_in t j r n ≡ is_apart alike es j r n

-- such tables, or none where some read's source is hidden in every order
abbrev pub Derived : {K : Type 0} → (K → K → Bool) → List (Entry K) → Option Constraints → Type 0
Derived alike es None = is_hidden alike es ≡ true
Derived alike es (Some t) = Holds alike es t
