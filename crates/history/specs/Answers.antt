-- What is right to answer about the orders of the committed cues, in the subject's words.
--
--   IsOrder es o          == o is an order of the committed cues
--   KeepsView es o        == in o each read keeps its source, and each item its last write
--   IsFirst es P o        == o is the first order, in dictionary order, of which P holds
--   NoOrder es P          == P holds of no order
--   Outcome               == what order shows: an order, or a cycle in its place
--   outcome o c           == the order o or, where there is none, the cycle c
--   order_in s            == the order that is shown, if one is
--   AnswersOrder es s     == it is right of order to show s
--   ShownKeepsView es s   == an order that is shown keeps the view
--   AnswersViews es o     == it is right of views to show o, or that there is none
use Rattle.std.specs.Prelude.{◌≡◌, ℕ, Bool, ◌⊎◌, List, Some, None, Option}
use Rattle.orders.specs.Least.{Rearranges, Before}
use Rattle.history.specs.declared.Entry.{Entry}
use Rattle.history.specs.Order.{committed_cues, KeepsConflicts, ConflictCycle}
use Rattle.history.specs.Views.{committed_list, serial_list, SameView}

pub data Outcome : Type 0 where
  ordered : List ℕ → Outcome
  cyclic : List ℕ → Outcome

abbrev pub outcome : Option (List ℕ) → List ℕ → Outcome
outcome (Some o) c = ordered o
outcome None c = cyclic c

abbrev pub order_in : Outcome → Option (List ℕ)
order_in (ordered o) = Some o
order_in (cyclic c) = None

module _ {K : Type 0} (es : List (Entry K)) where
  abbrev pub IsOrder : List ℕ → Type 0
  IsOrder o = Rearranges (committed_cues es) o

  pub record IsFirst (P : List ℕ → Type 0) (o : List ℕ) : Type 0 where
    pub order : IsOrder o
    pub passes : P o
    pub first : (q : List ℕ) → IsOrder q → P q → (o ≡ q) ⊎ Before o q

  abbrev pub NoOrder : (List ℕ → Type 0) → Type 0
  NoOrder P = (q : List ℕ) → IsOrder q → P q → ⊥

module _ {K : Type 0} (alike : K → K → Bool) (es : List (Entry K)) where
  abbrev pub KeepsView : List ℕ → Type 0
  KeepsView o = SameView alike (committed_list es) (serial_list (committed_list es) o)

  -- the first order that keeps each conflicting pair; or where there is none a cycle: which one
  -- is free
  abbrev pub AnswersOrder : Outcome → Type 0
  AnswersOrder (ordered o) = IsFirst es (KeepsConflicts alike es) o
  AnswersOrder (cyclic c) = ConflictCycle alike es c × NoOrder es (KeepsConflicts alike es)

  abbrev pub ShownKeepsView : Outcome → Type 0
  ShownKeepsView (ordered o) = KeepsView o
  ShownKeepsView (cyclic c) = Unit {0}

  -- the first that keeps each read's source and each item's last write
  abbrev pub AnswersViews : Option (List ℕ) → Type 0
  AnswersViews (Some o) = IsFirst es KeepsView o
  AnswersViews None = NoOrder es KeepsView
