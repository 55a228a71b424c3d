-- A row of a table of books, and when the definitions agree with it. Assumes nothing.
use Rattle.std.specs.Prelude.{◌≡◌, ℕ, Bool, List, Some, None, Option}
use Rattle.items.specs.declared.Axis.{Axis}
use Rattle.history.specs.declared.Act.TheVariants.{Read, Write, Commit, Abort}
use Rattle.history.specs.declared.Entry.{Entry}
use Rattle.history.specs.Order.{conflict_order, ConflictCycle}
use Rattle.history.specs.Views.{view_order}
use Rattle.history.specs.Answers.{Outcome, ordered, cyclic}
use Rattle.recovery.specs.Classes.{class_number, class_place, class_of}

-- a book, and what is expected of it; classes are 0 not recoverable, 1 recoverable, 2 cascadeless,
-- 3 strict, which has no place
pub record Row (K : Type 0) : Type 0 where
  pub book : List (Entry K)
  pub class : ℕ
  pub place : ℕ
  pub outcome : Outcome
  pub views : Option (List ℕ)

module _ {K : Type 0} where
  -- the class stands with its place
  abbrev pub row : List (Entry K) → ℕ × ℕ → Outcome → Option (List ℕ) → Row K
  row es p o v = record { book = es; class = p.0; place = p.1; outcome = o; views = v }

  abbrev pub read : ℕ → K → Entry K
  read n k = record { cue = n; act = Read k }

  abbrev pub write : ℕ → K → Entry K
  write n k = record { cue = n; act = Write k }

  abbrev pub c : ℕ → Entry K
  c n = record { cue = n; act = Commit }

  abbrev pub a : ℕ → Entry K
  a n = record { cue = n; act = Abort }

-- cue n reads or writes the axis with number k
abbrev pub r : ℕ → ℕ → Entry Axis
r n k = read n (record { number = k })

abbrev pub w : ℕ → ℕ → Entry Axis
w n k = write n (record { number = k })

module _ {K : Type 0} (alike : K → K → Bool) where
  abbrev pub Leaves : List (Entry K) → Outcome → Type 0
  Leaves es (ordered o) = conflict_order alike es ≡ Some o
  Leaves es (cyclic ns) = (conflict_order alike es ≡ None) × ConflictCycle alike es ns

  -- the class with its place, the order or a cycle, and the view-equivalent order
  abbrev pub RowAgrees : Row K → Type 0
  RowAgrees x =
      (class_number (class_of alike x.book) ≡ x.class)
      × (class_place (class_of alike x.book) ≡ x.place)
      × Leaves x.book x.outcome
      × (view_order alike x.book ≡ x.views)
