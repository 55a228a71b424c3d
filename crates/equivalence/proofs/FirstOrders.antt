-- The first orders that are found are right to answer.
use Rattle.std.proofs.Common.{◌≡◌, Bool, List, ℕ, Some, None, Option, refl}
use Rattle.orders.proofs.Leasts.{first_is_least, none_is_none}
use Rattle.history.specs.declared.Entry.{Entry}
use Rattle.history.specs.Entries.{committed}
use Rattle.history.specs.Order.{keeps, conflict_order, KeepsConflicts, ConflictCycle}
use Rattle.history.specs.Views.{view_equivalent, view_order}
use Rattle.history.specs.Answers.{outcome, IsFirst, NoOrder, AnswersOrder, ShownKeepsView, AnswersViews}
use Rattle.history.proofs.Keeping.{keeps_is}
use Rattle.equivalence.specs.Laws.{Sameness, FirstOrdersAreRight}
use Rattle.equivalence.proofs.Kept.{kept_is_view_lem}
use Rattle.equivalence.proofs.SameViews.{view_is_same_lem}

module _ {K : Type 0} (alike : K → K → Bool) (es : List (Entry K)) where
  pub order_first : (o : List ℕ) → conflict_order alike es ≡ Some o → IsFirst es (KeepsConflicts alike es) o
  order_first o h =
      let least = first_is_least (committed es) (keeps alike es) o h in
      record {
        order = least.order;
        passes = (keeps_is K alike es o).0 least.passes;
        first = λ q s k. least.least q s ((keeps_is K alike es q).1 k);
      }

  pub order_none : conflict_order alike es ≡ None → NoOrder es (KeepsConflicts alike es)
  order_none h q s k = none_is_none (committed es) (keeps alike es) h q s ((keeps_is K alike es q).1 k)

  pub order_right : (o : Option (List ℕ)) (c : List ℕ) → conflict_order alike es ≡ o → (o ≡ None → ConflictCycle alike es c) → AnswersOrder alike es (outcome o c)
  order_right (Some o) c h cycle = order_first o h
  order_right None c h cycle = (cycle refl, order_none h)

module _ {K : Type 0} (alike : K → K → Bool) (same : Sameness alike) (es : List (Entry K)) where
  pub view_right : (o : Option (List ℕ)) (c : List ℕ) → conflict_order alike es ≡ o → ShownKeepsView alike es (outcome o c)
  view_right (Some o) c h =
      let least = first_is_least (committed es) (keeps alike es) o h in
      (view_is_same_lem K alike same es o least.order).0 (kept_is_view_lem K alike same es o least.order least.passes)
  view_right None c h = tt

  pub views_right : (o : Option (List ℕ)) → view_order alike es ≡ o → AnswersViews alike es o
  views_right (Some o) h =
      let least = first_is_least (committed es) (view_equivalent alike es) o h in
      record {
        order = least.order;
        passes = (view_is_same_lem K alike same es o least.order).0 least.passes;
        first = λ q s k. least.least q s ((view_is_same_lem K alike same es q s).1 k);
      }
  views_right None h = λ q s k. none_is_none (committed es) (view_equivalent alike es) h q s ((view_is_same_lem K alike same es q s).1 k)

pub first_orders : (K : Type 0) → FirstOrdersAreRight K
first_orders K =
    record {
      order = λ alike es c cycle. order_right alike es (conflict_order alike es) c refl cycle;
      view = λ alike same es c. view_right alike same es (conflict_order alike es) c refl;
      views = λ alike same es. views_right alike same es (view_order alike es) refl;
    }
