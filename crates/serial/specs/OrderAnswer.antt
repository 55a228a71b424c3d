-- What the search for an order answers, and what it leaves in the list that is lent.
--
--   order_refusal es cells bytes   == the first refusal that is met, for a list of so many cells
--                                     and a strip of so many bytes
--   order_answer es list strip c   == the answer, with the cycle c where there is no order
--   order_list es list strip c     == the list after it
--   cycle_in answer list'          == the cycle in the first cells, where the answer is one
--   shown_in found list'           == what the first cells show
use Rattle.std.specs.Prelude.{ℕ, Bool, List, [], ◌++◌, length, take, drop, Some, None, Ok, Err}
use Rattle.std.specs.Prelude.{Option, Result}
use Rattle.refusals.specs.declared.Refusal.{Refusal}
use Rattle.history.specs.declared.Entry.{Entry}
use Rattle.graphs.specs.declared.Found.{Found}
use Rattle.graphs.specs.declared.Found.TheVariants.{Order, Cycle}
use Rattle.graphs.specs.Answer.{search_refusal}
use Rattle.history.specs.Entries.{committed}
use Rattle.history.specs.Order.{conflict_order}
use Rattle.history.specs.Answers.{Outcome, ordered, cyclic}

abbrev pub order_refusal : {K : Type 0} → List (Entry K) → (cells bytes : ℕ) → Option Refusal
order_refusal es cells bytes = search_refusal (committed es) cells bytes

-- the refusal, or the length of the order or else of the cycle
abbrev pub answer_by : Option Refusal → Option (List ℕ) → List ℕ → Result Found Refusal
answer_by (Some e) o c = Err e
answer_by None (Some o) c = Ok (Order (length o))
answer_by None None c = Ok (Cycle (length c))

-- the order or else the cycle fills the first cells; on a refusal all are as they were
abbrev pub list_by : Option Refusal → Option (List ℕ) → (c list : List ℕ) → List ℕ
list_by (Some e) o c list = list
list_by None (Some o) c list = o ++ drop (length o) list
list_by None None c list = c ++ drop (length c) list

abbrev pub cycle_in : Result Found Refusal → List ℕ → List ℕ
cycle_in (Ok (Order n)) list' = []
cycle_in (Ok (Cycle n)) list' = take n list'
cycle_in (Err e) list' = []

abbrev pub shown_in : Found → List ℕ → Outcome
shown_in (Order n) list' = ordered (take n list')
shown_in (Cycle n) list' = cyclic (take n list')

module _ {K : Type 0} (alike : K → K → Bool) (es : List (Entry K)) where
  abbrev pub order_answer : (list strip c : List ℕ) → Result Found Refusal
  order_answer list strip c =
      answer_by (order_refusal es (length list) (length strip)) (conflict_order alike es) c

  abbrev pub order_list : (list strip c : List ℕ) → List ℕ
  order_list list strip c =
      list_by (order_refusal es (length list) (length strip)) (conflict_order alike es) c list
