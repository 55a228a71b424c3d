-- The text of the report. Assumes nothing.
use Rattle.std.specs.Prelude.{ℕ, Bool, cond, List, [], ◌∷◌, ◌++◌, length, Some, None, Ok, Err, Option, Result, nat_lt, codes}
use Rattle.std.specs.List.{flat_map}
use Rattle.refusals.specs.Numbers.{layer_number_of}
use Rattle.columns.specs.Columns.{number_in}
use Rattle.history.specs.declared.Entry.{Entry}
use Rattle.history.specs.Order.{committed_cues, conflict_order}
use Rattle.history.specs.Views.{view_order}
use Rattle.recovery.specs.declared.Class.{Class}
use Rattle.recovery.specs.Classes.{class_number, class_place, class_of}
use Rattle.book.specs.declared.sheets.ReadFault.{ReadFault}

-- the words that lines begin with
abbrev pub class : List ℕ
class = codes "class"

abbrev pub order : List ℕ
order = codes "order"

abbrev pub cycle : List ℕ
cycle = codes "cycle"

abbrev pub views : List ℕ
views = codes "views"

abbrev pub vnone : List ℕ
vnone = codes "vnone"

abbrev pub vmany : List ℕ
vmany = codes "vmany"

abbrev pub fault : List ℕ
fault = codes "fault"

-- a word, numbers in five columns each, and a line feed
abbrev pub line : List ℕ → List ℕ → List ℕ
line word ns = word ++ (flat_map (number_in 5) ns ++ 10 ∷ [])

abbrev pub class_line : Class → List ℕ
class_line c = line class (class_number c ∷ class_place c ∷ [])

-- the order, or a cycle c where there is none
abbrev pub order_line : Option (List ℕ) → List ℕ → List ℕ
order_line (Some o) c = line order o
order_line None c = line cycle c

abbrev pub views_line : Option (List ℕ) → List ℕ
views_line (Some o) = line views o
views_line None = line vnone []

module _ {K : Type 0} (alike : K → K → Bool) where
  abbrev pub views_text : List (Entry K) → List ℕ
  views_text es = cond (nat_lt 8 (length (committed_cues es))) (line vmany []) (views_line (view_order alike es))

  -- with a cycle c where there is no order
  abbrev pub answers_text : List (Entry K) → List ℕ → List ℕ
  answers_text es c = class_line (class_of alike es) ++ (order_line (conflict_order alike es) c ++ views_text es)

  -- the answers about what was read in, or only the fault
  abbrev pub report_text : Result ℕ ReadFault → List (Entry K) → List ℕ → List ℕ
  report_text (Ok n) es c = answers_text es c
  report_text (Err f) es c = line fault (layer_number_of f.layer ∷ f.line ∷ [])
