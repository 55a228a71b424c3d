-- What one more note leaves in the tables. Assumes nothing.
use Rattle.std.specs.Prelude.{◌≡◌, ℕ, Bool, true, false, not, ◌&&◌, ◌||◌, List, Some, None, Option, ◌==◌}
use Rattle.history.specs.declared.Entry.{Entry}
use Rattle.history.specs.Marked.{marked}
use Rattle.equivalence.specs.Constraints.{last_writer, read_hides, read_ahead, read_apart, write_ahead}
use Rattle.views.specs.declared.constraints.Constraints.{Constraints}
use Rattle.views.specs.Tables.{ahead_in, apart_in}

-- the tables t' have what t has, and what the two tests say besides
pub record Notes (before : ℕ → ℕ → Bool) (between : ℕ → ℕ → ℕ → Bool) (t t' : Constraints) : Type 0 where
  pub members : t'.members ≡ t.members
  pub ahead : (a b : ℕ) → ahead_in t' a b ≡ (ahead_in t a b || before a b)
  pub apart : (j r n : ℕ) → apart_in t' j r n ≡ (apart_in t j r n || between j r n)

abbrev pub none_ahead : ℕ → ℕ → Bool
none_ahead a b = false

abbrev pub none_apart : ℕ → ℕ → ℕ → Bool
none_apart j r n = false

-- the cue is a member
abbrev pub Member : Constraints → ℕ → Type 0
Member t n = marked t.members.cues n ≡ true

-- the cues that a table marks are members
abbrev pub Within : List Bool → Constraints → Type 0
Within table t = (n : ℕ) → marked table n ≡ true → Member t n

-- one more pair, and one more three
abbrev pub PutsAhead : Constraints → Constraints → ℕ → ℕ → Type 0
PutsAhead t t' a b = Member t a → Member t b → Notes (λ x y. x == a && y == b) none_apart t t'

abbrev pub PutsApart : Constraints → Constraints → ℕ → ℕ → ℕ → Type 0
PutsApart t t' j r n = Member t j → Member t r → Member t n → Notes none_ahead (λ x y z. (x == j && y == r) && z == n) t t'

-- a writer other than the reader
abbrev pub other : ℕ → List Bool → ℕ → Bool
other reader writers n = not (n == reader) && marked writers n

-- the reader comes before each other writer
abbrev pub first : ℕ → List Bool → ℕ → ℕ → Bool
first reader writers a b = a == reader && other reader writers b

abbrev pub PutsFirst : Constraints → Constraints → ℕ → List Bool → Type 0
PutsFirst t t' reader writers = Member t reader → Within writers t → Notes (first reader writers) none_apart t t'

-- a writer other than these two
abbrev pub third : ℕ → ℕ → List Bool → List Bool → ℕ → Bool
third source reader earlier later n = (not (n == source) && not (n == reader)) && (marked earlier n || marked later n)

-- no other writer stands between the source and the reader
abbrev pub split : ℕ → ℕ → List Bool → List Bool → ℕ → ℕ → ℕ → Bool
split source reader earlier later j r n = (j == source && r == reader) && third source reader earlier later n

abbrev pub PutsBetween : Constraints → Constraints → ℕ → ℕ → List Bool → List Bool → Type 0
PutsBetween t t' source reader earlier later = Member t source → Member t reader → Within earlier t → Within later t → Notes none_ahead (split source reader earlier later) t t'

module _ {K : Type 0} (alike : K → K → Bool) (t t' : Constraints) where
  -- what a read of k by cue i asks of the tables, by its source
  abbrev pub ReadNotes : List (Entry K) → ℕ → K → List (Entry K) → Option ℕ → Type 0
  ReadNotes before i k after source = Notes (read_ahead alike (marked t.members.cues) k i after source) (read_apart alike (marked t.members.cues) k i before after source) t t'

  -- none where the source is hidden
  abbrev pub ReadBy : List (Entry K) → ℕ → K → List (Entry K) → Option ℕ → Option (Unit {0}) → Type 0
  ReadBy before i k after source None = read_hides alike (marked t.members.cues) k i before after source ≡ true
  ReadBy before i k after source (Some u) = (read_hides alike (marked t.members.cues) k i before after source ≡ false) × ReadNotes before i k after source

  abbrev pub AskedRead : List (Entry K) → ℕ → K → List (Entry K) → Option (Unit {0}) → Type 0
  AskedRead before i k after o = ReadBy before i k after (last_writer alike (marked t.members.cues) k before) o

  -- what a write of k by cue i asks
  abbrev pub AskedWrite : ℕ → K → List (Entry K) → Type 0
  AskedWrite i k after = Notes (write_ahead alike (marked t.members.cues) i (last_writer alike (marked t.members.cues) k after)) none_apart t t'
