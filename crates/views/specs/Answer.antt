-- What views answers, and what it leaves in the list that is lent.
--
--   views_refusal es cells    == the first refusal that is met, for a list of so many cells
--   views_answer es list      == the answer
--   views_list es list        == the list after it
--   ViewsRight es list' r     == what is shown is right, and so is none
use Rattle.std.specs.Prelude.{ℕ, Bool, cond, List, ◌++◌, length, take, drop, Some, None, Ok, Err}
use Rattle.std.specs.Prelude.{Option, Result, nat_lt}
use Rattle.std.specs.Option.{option_map}
use Rattle.refusals.specs.declared.Refusal.{Refusal}
use Rattle.refusals.specs.declared.Refusal.TheVariants.{ManyCues, ListShort}
use Rattle.history.specs.declared.Entry.{Entry}
use Rattle.history.specs.Order.{committed_cues}
use Rattle.history.specs.Views.{view_order}
use Rattle.history.specs.Answers.{AnswersViews}

abbrev pub views_refusal : {K : Type 0} → List (Entry K) → ℕ → Option Refusal
views_refusal es cells =
    cond (nat_lt 8 (length (committed_cues es))) (Some ManyCues)
    (cond (nat_lt cells (length (committed_cues es))) (Some ListShort) None)

-- the refusal, or how long the order is where there is one
abbrev pub answered : Option Refusal → Option (List ℕ) → Result (Option ℕ) Refusal
answered (Some e) o = Err e
answered None o = Ok (option_map length o)

-- an order fills the first cells
abbrev pub filled : Option (List ℕ) → List ℕ → List ℕ
filled None list = list
filled (Some o) list = o ++ drop (length o) list

abbrev pub left : Option Refusal → Option (List ℕ) → List ℕ → List ℕ
left (Some e) o list = list
left None o list = filled o list

module _ {K : Type 0} (alike : K → K → Bool) where
  abbrev pub views_answer : List (Entry K) → List ℕ → Result (Option ℕ) Refusal
  views_answer es list = answered (views_refusal es (length list)) (view_order alike es)

  abbrev pub views_list : List (Entry K) → List ℕ → List ℕ
  views_list es list = left (views_refusal es (length list)) (view_order alike es) list

  abbrev pub ViewsRight : List (Entry K) → List ℕ → Result (Option ℕ) Refusal → Type 0
  ViewsRight es list' (Ok (Some n)) = AnswersViews alike es (Some (take n list'))
  ViewsRight es list' (Ok None) = AnswersViews alike es None
  ViewsRight es list' (Err e) = Unit {0}
