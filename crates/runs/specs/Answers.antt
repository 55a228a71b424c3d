-- When an answer of a run about orders is right.
--
--   cues_of c                        == the cues that stand in the first cells
--   IsOrderAnswer es cells bytes a   == a is right to answer order, for a list of so many cells
--                                       and a strip of so many bytes
--   IsViewsAnswer es cells a         == a is right to answer views, for a list of so many cells
--   LentPast64                       == more than 64 cells, or bytes, make no difference
use Rattle.std.specs.Prelude.{◌≡◌, ℕ, min, Bool, List, take, Some, None, Ok, Err, Option, Result}
use Rattle.history.specs.declared.Entry.{Entry}
use Rattle.history.specs.Order.{conflict_order}
use Rattle.history.specs.Views.{view_order}
use Rattle.history.specs.Answers.{Outcome, ordered, cyclic, order_in}
use Rattle.history.specs.Answers.{AnswersOrder, ShownKeepsView, AnswersViews}
use Rattle.serial.specs.OrderAnswer.{order_refusal}
use Rattle.views.specs.Answer.{views_refusal}
use Rattle.runs.specs.declared.Answer.{Answer}
use Rattle.runs.specs.declared.Answer.TheVariants as answer
use Rattle.runs.specs.declared.cues.Cues.{Cues}
use Rattle.runs.specs.declared.Failure.{Failure}
use Rattle.runs.specs.declared.Failure.TheVariants as failure

abbrev pub cues_of : Cues → List ℕ
cues_of c = take c.count c.list

module _ {K : Type 0} (alike : K → K → Bool) (es : List (Entry K)) where
  -- no refusal applies, and this is what there is to show
  pub record OrderShown (cells bytes : ℕ) (shown : Outcome) : Type 0 where
    pub taken : order_refusal es cells bytes ≡ None
    pub order : conflict_order alike es ≡ order_in shown
    pub right : AnswersOrder alike es shown
    pub view : ShownKeepsView alike es shown

  pub record ViewsShown (cells : ℕ) (o : Option (List ℕ)) : Type 0 where
    pub taken : views_refusal es cells ≡ None
    pub order : view_order alike es ≡ o
    pub right : AnswersViews alike es o

  -- a refusal is right exactly when it is the first that is met; an answer to another call never is
  abbrev pub IsOrderAnswer : (cells bytes : ℕ) → Result Answer Failure → Type 0
  IsOrderAnswer cells bytes (Ok (answer.Order c)) = OrderShown cells bytes (ordered (cues_of c))
  IsOrderAnswer cells bytes (Ok (answer.Cycle c)) = OrderShown cells bytes (cyclic (cues_of c))
  IsOrderAnswer cells bytes (Err (failure.Refused f)) = order_refusal es cells bytes ≡ Some f
  IsOrderAnswer cells bytes _ = ⊥

  abbrev pub IsViewsAnswer : ℕ → Result Answer Failure → Type 0
  IsViewsAnswer cells (Ok (answer.Views (Some c))) = ViewsShown cells (Some (cues_of c))
  IsViewsAnswer cells (Ok (answer.Views None)) = ViewsShown cells None
  IsViewsAnswer cells (Err (failure.Refused f)) = views_refusal es cells ≡ Some f
  IsViewsAnswer cells _ = ⊥

-- a list of more than 64 cells is as good as one of 64, and a strip of more than 64 bytes
pub record LentPast64 (K : Type 0) : Type 0 where
  pub order :
      (es : List (Entry K)) (cells bytes : ℕ) →
      order_refusal es (min cells 64) (min bytes 64) ≡ order_refusal es cells bytes
  pub views :
      (es : List (Entry K)) (cells : ℕ) → views_refusal es (min cells 64) ≡ views_refusal es cells
