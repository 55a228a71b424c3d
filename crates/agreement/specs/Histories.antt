-- Thirty-seven longer or rarer books of axes. Assumes nothing.
use Rattle.std.specs.Prelude.{List, [], ◌∷◌, Some, None}
use Rattle.std.specs.List.{AllByRecursion}
use Rattle.items.specs.declared.Axis.{Axis}
use Rattle.items.specs.Kinds.{axis_alike}
use Rattle.history.specs.Answers.{ordered, cyclic}
use Rattle.agreement.specs.Rows.{Row, row, c, a, r, w, RowAgrees}

abbrev pub histories : List (Row Axis)
histories =
    -- blind writes after a read, the last of a third cue
    row (r 3 1 ∷ w 4 1 ∷ w 3 1 ∷ w 5 1 ∷ c 3 ∷ c 4 ∷ c 5 ∷ [])
    (2, 3) (cyclic (3 ∷ 4 ∷ [])) (Some (3 ∷ 4 ∷ 5 ∷ [])) ∷
    -- a cycle, and one view-equivalent order
    row (r 2 2 ∷ w 2 1 ∷ r 1 1 ∷ r 3 1 ∷ w 1 2 ∷ w 2 2 ∷ w 3 2 ∷ c 1 ∷ c 2 ∷ c 3 ∷ [])
    (0, 8) (cyclic (1 ∷ 2 ∷ [])) (Some (2 ∷ 1 ∷ 3 ∷ [])) ∷
    -- the same two cues four times: the second commits before the first
    row (w 1 1 ∷ w 1 2 ∷ r 2 4 ∷ w 2 1 ∷ r 2 2 ∷ w 2 2 ∷ c 2 ∷ w 1 3 ∷ c 1 ∷ [])
    (0, 7) (ordered (1 ∷ 2 ∷ [])) (Some (1 ∷ 2 ∷ [])) ∷
    -- the second reads before the first commits
    row (w 1 1 ∷ w 1 2 ∷ r 2 4 ∷ w 2 1 ∷ r 2 2 ∷ w 2 2 ∷ w 1 3 ∷ c 1 ∷ c 2 ∷ [])
    (1, 5) (ordered (1 ∷ 2 ∷ [])) (Some (1 ∷ 2 ∷ [])) ∷
    -- the second writes before the first commits
    row (w 1 1 ∷ w 1 2 ∷ r 2 4 ∷ w 2 1 ∷ w 1 3 ∷ c 1 ∷ r 2 2 ∷ w 2 2 ∷ c 2 ∷ [])
    (2, 4) (ordered (1 ∷ 2 ∷ [])) (Some (1 ∷ 2 ∷ [])) ∷
    -- the second waits for the first
    row (w 1 1 ∷ w 1 2 ∷ r 2 4 ∷ w 1 3 ∷ c 1 ∷ w 2 1 ∷ r 2 2 ∷ w 2 2 ∷ c 2 ∷ [])
    (3, 0) (ordered (1 ∷ 2 ∷ [])) (Some (1 ∷ 2 ∷ [])) ∷
    -- a read after the commit
    row (w 1 5 ∷ c 1 ∷ r 2 5 ∷ c 2 ∷ []) (3, 0) (ordered (1 ∷ 2 ∷ [])) (Some (1 ∷ 2 ∷ [])) ∷
    -- a reader of an open cue commits
    row (w 1 5 ∷ r 2 5 ∷ c 2 ∷ []) (0, 3) (ordered (2 ∷ [])) (Some (2 ∷ [])) ∷
    -- a cue reads its own write
    row (w 1 5 ∷ r 1 5 ∷ w 1 5 ∷ c 1 ∷ []) (3, 0) (ordered (1 ∷ [])) (Some (1 ∷ [])) ∷
    -- the writer aborts after it was read
    row (w 1 5 ∷ r 2 5 ∷ a 1 ∷ c 2 ∷ []) (0, 4) (ordered (2 ∷ [])) (Some (2 ∷ [])) ∷
    -- the aborted write is read before the abort
    row (w 1 5 ∷ w 2 5 ∷ r 3 5 ∷ a 2 ∷ c 3 ∷ c 1 ∷ [])
    (0, 5) (ordered (1 ∷ 3 ∷ [])) (Some (1 ∷ 3 ∷ [])) ∷
    -- transfers one after the other
    row (r 1 1 ∷ w 1 1 ∷ r 1 2 ∷ w 1 2 ∷ c 1 ∷ r 2 1 ∷ w 2 1 ∷ r 2 2 ∷ w 2 2 ∷ c 2 ∷ [])
    (3, 0) (ordered (1 ∷ 2 ∷ [])) (Some (1 ∷ 2 ∷ [])) ∷
    -- transfers side by side, in one order
    row (r 1 1 ∷ w 1 1 ∷ r 2 1 ∷ w 2 1 ∷ r 1 2 ∷ w 1 2 ∷ c 1 ∷ r 2 2 ∷ w 2 2 ∷ c 2 ∷ [])
    (1, 3) (ordered (1 ∷ 2 ∷ [])) (Some (1 ∷ 2 ∷ [])) ∷
    -- transfers that cross
    row (r 1 1 ∷ r 2 1 ∷ w 2 1 ∷ r 2 2 ∷ w 1 1 ∷ r 1 2 ∷ w 1 2 ∷ c 1 ∷ w 2 2 ∷ c 2 ∷ [])
    (2, 5) (cyclic (1 ∷ 2 ∷ [])) None ∷
    -- each begins with what the other ends with
    row (r 1 1 ∷ w 1 1 ∷ r 2 2 ∷ w 2 2 ∷ r 1 2 ∷ w 1 2 ∷ r 2 1 ∷ w 2 1 ∷ c 1 ∷ c 2 ∷ [])
    (0, 9) (cyclic (1 ∷ 2 ∷ [])) None ∷
    -- a lost update
    row (r 1 1 ∷ r 2 1 ∷ w 1 1 ∷ r 1 2 ∷ w 2 1 ∷ c 2 ∷ w 1 2 ∷ c 1 ∷ [])
    (2, 5) (cyclic (1 ∷ 2 ∷ [])) None ∷
    -- three cues, two of them in a cycle
    row
    (r 2 3 ∷ r 2 2 ∷ w 2 2 ∷ r 3 2 ∷ r 3 3 ∷ r 1 1 ∷ w 1 1 ∷ w 3 2 ∷ w 3 3 ∷ c 3 ∷ r 2 1 ∷
    r 1 2 ∷ w 1 2 ∷ c 1 ∷ w 2 1 ∷ c 2 ∷ [])
    (0, 10) (cyclic (1 ∷ 2 ∷ [])) None ∷
    -- three cues in an order
    row
    (r 3 2 ∷ r 3 3 ∷ r 1 1 ∷ w 1 1 ∷ w 3 2 ∷ w 3 3 ∷ c 3 ∷ r 2 3 ∷ r 1 2 ∷ w 1 2 ∷ c 1 ∷
    r 2 2 ∷ w 2 2 ∷ r 2 1 ∷ w 2 1 ∷ c 2 ∷ [])
    (3, 0) (ordered (3 ∷ 1 ∷ 2 ∷ [])) (Some (3 ∷ 1 ∷ 2 ∷ [])) ∷
    -- four cues in falling order
    row
    (r 4 4 ∷ w 3 1 ∷ r 2 1 ∷ r 1 1 ∷ w 4 4 ∷ w 3 2 ∷ r 1 2 ∷ w 1 1 ∷ r 3 4 ∷ w 3 3 ∷ r 2 3 ∷
    w 1 2 ∷ r 2 4 ∷ w 2 3 ∷ c 1 ∷ c 2 ∷ c 3 ∷ c 4 ∷ [])
    (0, 15) (ordered (4 ∷ 3 ∷ 2 ∷ 1 ∷ [])) (Some (4 ∷ 3 ∷ 2 ∷ 1 ∷ [])) ∷
    -- four cues, some in a cycle
    row
    (r 1 1 ∷ r 2 1 ∷ r 2 3 ∷ w 3 1 ∷ w 3 2 ∷ r 4 4 ∷ r 1 2 ∷ w 4 4 ∷ w 1 1 ∷ r 2 4 ∷ r 3 4 ∷
    w 3 3 ∷ w 2 3 ∷ w 1 2 ∷ c 1 ∷ c 2 ∷ c 3 ∷ c 4 ∷ [])
    (0, 15) (cyclic (3 ∷ 2 ∷ 1 ∷ [])) None ∷
    -- three cues in a cycle
    row (r 1 1 ∷ w 2 1 ∷ r 2 2 ∷ w 3 2 ∷ r 3 3 ∷ w 1 3 ∷ c 1 ∷ c 2 ∷ c 3 ∷ [])
    (3, 0) (cyclic (1 ∷ 2 ∷ 3 ∷ [])) None ∷
    -- a cycle with an aborted cue
    row (r 1 1 ∷ w 2 1 ∷ r 2 2 ∷ w 3 2 ∷ r 3 3 ∷ w 1 3 ∷ c 1 ∷ a 2 ∷ c 3 ∷ [])
    (3, 0) (ordered (3 ∷ 1 ∷ [])) (Some (3 ∷ 1 ∷ [])) ∷
    -- the smallest that can go first goes first
    row (r 3 1 ∷ w 1 1 ∷ r 4 2 ∷ w 2 2 ∷ c 1 ∷ c 2 ∷ c 3 ∷ c 4 ∷ [])
    (3, 0) (ordered (3 ∷ 1 ∷ 4 ∷ 2 ∷ [])) (Some (3 ∷ 1 ∷ 4 ∷ 2 ∷ [])) ∷
    -- a polygraph of four cues
    row
    (r 2 1 ∷ r 1 1 ∷ w 1 3 ∷ r 3 3 ∷ w 1 2 ∷ r 4 2 ∷ w 3 1 ∷ r 4 3 ∷ w 2 4 ∷ r 2 2 ∷ w 4 1 ∷
    w 4 2 ∷ c 1 ∷ c 2 ∷ c 3 ∷ c 4 ∷ [])
    (1, 4) (ordered (1 ∷ 2 ∷ 3 ∷ 4 ∷ [])) (Some (1 ∷ 2 ∷ 3 ∷ 4 ∷ [])) ∷
    -- transfers that the sums alone let change places
    row (r 1 1 ∷ w 1 1 ∷ r 5 2 ∷ w 5 2 ∷ r 1 2 ∷ w 1 2 ∷ r 5 1 ∷ w 5 1 ∷ c 1 ∷ c 5 ∷ [])
    (0, 9) (cyclic (1 ∷ 5 ∷ [])) None ∷
    -- a write of the reader's own hides the source
    row (w 1 3 ∷ w 2 3 ∷ w 1 3 ∷ r 2 3 ∷ c 1 ∷ c 2 ∷ []) (1, 4) (cyclic (1 ∷ 2 ∷ [])) None ∷
    -- a reader of the initial state comes first
    row (r 2 3 ∷ w 1 3 ∷ c 1 ∷ c 2 ∷ []) (3, 0) (ordered (2 ∷ 1 ∷ [])) (Some (2 ∷ 1 ∷ [])) ∷
    -- none stands between a source and its reader
    row (w 1 3 ∷ r 3 3 ∷ w 2 3 ∷ w 4 3 ∷ c 1 ∷ c 2 ∷ c 3 ∷ c 4 ∷ [])
    (1, 2) (ordered (1 ∷ 3 ∷ 2 ∷ 4 ∷ [])) (Some (1 ∷ 3 ∷ 2 ∷ 4 ∷ [])) ∷
    -- eight committed cues
    row (c 8 ∷ c 7 ∷ c 6 ∷ c 5 ∷ c 4 ∷ c 3 ∷ c 2 ∷ w 1 1 ∷ c 1 ∷ [])
    (3, 0) (ordered (1 ∷ 2 ∷ 3 ∷ 4 ∷ 5 ∷ 6 ∷ 7 ∷ 8 ∷ []))
    (Some (1 ∷ 2 ∷ 3 ∷ 4 ∷ 5 ∷ 6 ∷ 7 ∷ 8 ∷ [])) ∷
    -- a crash before the first commits
    row (r 1 1 ∷ w 1 1 ∷ r 1 2 ∷ r 2 1 ∷ w 1 2 ∷ r 2 2 ∷ c 2 ∷ r 1 3 ∷ w 1 3 ∷ [])
    (0, 7) (ordered (2 ∷ [])) (Some (2 ∷ [])) ∷
    -- a cue reads its own write over another's
    row (w 1 5 ∷ w 2 5 ∷ r 2 5 ∷ c 1 ∷ c 2 ∷ [])
    (2, 2) (ordered (1 ∷ 2 ∷ [])) (Some (1 ∷ 2 ∷ [])) ∷
    -- the reader aborts
    row (w 1 5 ∷ r 2 5 ∷ a 2 ∷ c 1 ∷ []) (1, 2) (ordered (1 ∷ [])) (Some (1 ∷ [])) ∷
    -- a read of a committed write over an open one
    row (w 1 5 ∷ w 2 5 ∷ c 2 ∷ r 3 5 ∷ c 1 ∷ c 3 ∷ [])
    (2, 2) (ordered (1 ∷ 2 ∷ 3 ∷ [])) (Some (1 ∷ 2 ∷ 3 ∷ [])) ∷
    -- cue 64 comes first
    row (w 64 5 ∷ r 2 5 ∷ c 64 ∷ c 2 ∷ [])
    (1, 2) (ordered (64 ∷ 2 ∷ [])) (Some (64 ∷ 2 ∷ [])) ∷
    -- an open write is read by an open cue
    row (w 1 5 ∷ w 2 5 ∷ c 1 ∷ r 3 5 ∷ []) (1, 4) (ordered (1 ∷ [])) (Some (1 ∷ [])) ∷
    -- the reader aborts, and none commits
    row (w 1 5 ∷ r 2 5 ∷ a 2 ∷ []) (1, 2) (ordered []) (Some []) ∷
    -- the views come before the order
    row (w 2 5 ∷ w 1 5 ∷ r 1 5 ∷ w 3 5 ∷ c 1 ∷ c 2 ∷ c 3 ∷ [])
    (2, 2) (ordered (2 ∷ 1 ∷ 3 ∷ [])) (Some (1 ∷ 2 ∷ 3 ∷ [])) ∷
    []

abbrev pub HistoriesAgree : Type 0
HistoriesAgree = AllByRecursion (RowAgrees axis_alike) histories
