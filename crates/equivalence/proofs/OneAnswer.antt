-- No answers are right but those that the definitions find.
use Rattle.std.proofs.Common.{◌≡◌, ℕ, Bool, List, Some, None, Option, sym, refl, ap, ⊎_elim}
use Rattle.orders.proofs.Dictionary.{before_once}
use Rattle.history.specs.declared.Entry.{Entry}
use Rattle.history.specs.Order.{conflict_order, KeepsConflicts}
use Rattle.history.specs.Views.{view_order}
use Rattle.history.specs.Answers.{IsFirst, NoOrder, KeepsView, AnswersViews}
use Rattle.equivalence.specs.Laws.{Sameness, OneAnswerIsRight}
use Rattle.equivalence.proofs.FirstOrders.{order_first, order_none, views_right}

module _ {K : Type 0} (es : List (Entry K)) (P : List ℕ → Type 0) where
  -- what is right of an order, or of there being none
  abbrev FirstOrNone : Option (List ℕ) → Type 0
  FirstOrNone (Some o) = IsFirst es P o
  FirstOrNone None = NoOrder es P

  -- only one of them is
  one_right : (a b : Option (List ℕ)) → FirstOrNone a → FirstOrNone b → a ≡ b
  one_right None None f g = refl
  one_right None (Some q) f g = absurd (f q g.order g.passes)
  one_right (Some o) None f g = absurd (g o f.order f.passes)
  one_right (Some o) (Some q) f g =
      ap Some (⊎_elim (λ e. e) (λ h. ⊎_elim sym (λ k. absurd (before_once o q h k)) (g.first o f.order f.passes)) (f.first q g.order g.passes))

module _ {K : Type 0} (alike : K → K → Bool) (es : List (Entry K)) where
  order_found : (a : Option (List ℕ)) → conflict_order alike es ≡ a → FirstOrNone es (KeepsConflicts alike es) a
  order_found (Some o) h = order_first alike es o h
  order_found None h = order_none alike es h

  order_only : (b : Option (List ℕ)) → FirstOrNone es (KeepsConflicts alike es) b → conflict_order alike es ≡ b
  order_only b r =
      let a = conflict_order alike es in
      one_right es (KeepsConflicts alike es) a b (order_found a refl) r

  views_of : (b : Option (List ℕ)) → AnswersViews alike es b → FirstOrNone es (KeepsView alike es) b
  views_of (Some o) r = r
  views_of None r = r

  views_only : Sameness alike → (b : Option (List ℕ)) → AnswersViews alike es b → view_order alike es ≡ b
  views_only same b r =
      let a = view_order alike es in
      one_right es (KeepsView alike es) a b (views_of a (views_right alike same es a refl)) (views_of b r)

pub one_answer : (K : Type 0) → OneAnswerIsRight K
one_answer K =
    record {
      order = λ alike es o. (order_only alike es (Some o), order_first alike es o);
      cycle = λ alike es c. (λ r. (order_only alike es None r.1, r.0), λ h. (h.1, order_none alike es h.0));
      views = λ alike same es o. (views_only alike es same o, views_right alike same es o);
    }
