-- The thirteen sample books, of axes and of marks, all but the last with a number. Assumes nothing.
use Rattle.std.specs.Prelude.{ℕ, ◌-◌, List, [], ◌∷◌, Some, None}
use Rattle.std.specs.List.{AllByRecursion}
use Rattle.items.specs.declared.Axis.{Axis}
use Rattle.items.specs.declared.Mark.{Mark}
use Rattle.items.specs.Kinds.{axis_alike, mark_alike}
use Rattle.items.specs.Words.{word_from}
use Rattle.history.specs.Answers.{ordered, cyclic}
use Rattle.agreement.specs.Rows.{Row, row, read, write, c, a, r, w, RowAgrees}

-- the mark with these letters
abbrev pub spelt : List ℕ → Mark
spelt bs = record { number = word_from 0 bs - 1 }

-- the bytes of `trap` and of `TRAP`
abbrev pub trap : Mark
trap = spelt (116 ∷ 114 ∷ 97 ∷ 112 ∷ [])

abbrev pub trap_in_capitals : Mark
trap_in_capitals = spelt (84 ∷ 82 ∷ 65 ∷ 80 ∷ [])

-- the bytes of `lift`
abbrev pub lift : Mark
lift = spelt (108 ∷ 105 ∷ 102 ∷ 116 ∷ [])

-- a row of either kind
pub data Sample : Type 0 where
  of_axes : Row Axis → Sample
  of_marks : Row Mark → Sample

abbrev pub Agrees : Sample → Type 0
Agrees (of_axes x) = RowAgrees axis_alike x
Agrees (of_marks x) = RowAgrees mark_alike x

abbrev pub samples : List Sample
samples =
    -- 1, empty
    of_axes (row [] (3, 0) (ordered []) (Some [])) ∷
    -- 2, a reader commits first
    of_axes (row (w 1 5 ∷ r 2 5 ∷ c 2 ∷ c 1 ∷ [])
    (0, 3) (ordered (1 ∷ 2 ∷ [])) (Some (1 ∷ 2 ∷ []))) ∷
    -- 3, a read of what is not committed
    of_axes (row (w 1 5 ∷ r 2 5 ∷ c 1 ∷ c 2 ∷ [])
    (1, 2) (ordered (1 ∷ 2 ∷ [])) (Some (1 ∷ 2 ∷ []))) ∷
    -- 4, a write over what is not committed
    of_axes (row (w 1 5 ∷ w 2 5 ∷ c 1 ∷ c 2 ∷ [])
    (2, 2) (ordered (1 ∷ 2 ∷ [])) (Some (1 ∷ 2 ∷ []))) ∷
    -- 6, a read after the abort
    of_axes (row (w 1 5 ∷ a 1 ∷ r 2 5 ∷ c 2 ∷ []) (3, 0) (ordered (2 ∷ [])) (Some (2 ∷ []))) ∷
    -- 7, blind writes that a third cue covers
    of_axes (row (w 1 9 ∷ w 2 9 ∷ w 2 4 ∷ c 2 ∷ w 1 4 ∷ c 1 ∷ w 3 9 ∷ w 3 4 ∷ c 3 ∷ [])
    (2, 2) (cyclic (1 ∷ 2 ∷ [])) (Some (1 ∷ 2 ∷ 3 ∷ []))) ∷
    -- 8, blind writes that none covers
    of_axes (row (w 1 9 ∷ w 2 9 ∷ w 2 4 ∷ c 2 ∷ w 1 4 ∷ c 1 ∷ [])
    (2, 2) (cyclic (1 ∷ 2 ∷ [])) None) ∷
    -- 9, a read of another's write over one's own
    of_axes (row (w 1 3 ∷ w 2 3 ∷ r 1 3 ∷ c 1 ∷ c 2 ∷ []) (0, 4) (cyclic (1 ∷ 2 ∷ [])) None) ∷
    -- 10, a write after the reader
    of_axes (row (w 1 3 ∷ r 2 3 ∷ w 1 3 ∷ c 1 ∷ c 2 ∷ []) (1, 2) (cyclic (1 ∷ 2 ∷ [])) None) ∷
    -- 11, the last write is aborted
    of_axes (row (w 1 5 ∷ w 2 5 ∷ a 2 ∷ r 3 5 ∷ c 1 ∷ c 3 ∷ [])
    (1, 4) (ordered (1 ∷ 3 ∷ [])) (Some (1 ∷ 3 ∷ []))) ∷
    -- 13, commits against the order
    of_axes (row (r 1 5 ∷ w 2 5 ∷ c 2 ∷ c 1 ∷ [])
    (3, 0) (ordered (1 ∷ 2 ∷ [])) (Some (1 ∷ 2 ∷ []))) ∷
    -- 14, marks of either case are the same
    of_marks (row (write 1 trap ∷ read 2 trap_in_capitals ∷ c 1 ∷ c 2 ∷ [])
    (1, 2) (ordered (1 ∷ 2 ∷ [])) (Some (1 ∷ 2 ∷ []))) ∷
    -- marks of other letters are not
    of_marks (row (write 1 trap ∷ read 2 lift ∷ c 1 ∷ c 2 ∷ [])
    (3, 0) (ordered (1 ∷ 2 ∷ [])) (Some (1 ∷ 2 ∷ []))) ∷
    []

abbrev pub SamplesAgree : Type 0
SamplesAgree = AllByRecursion Agrees samples
