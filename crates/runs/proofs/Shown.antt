-- The answers about orders and views are right.
use Rattle.std.proofs.Common.{◌≡◌, ℕ, ◌≤◌, min, Bool, cond, ltb, List, [], ◌++◌, length, take, replicate, Some, None, Ok, Err, Option, sym, ◌∙◌, subst, inl, inr, arith}
use Rattle.std.proofs.lemmas.List.{length-take, length-replicate}
use Rattle.std.proofs.lemmas.Bool.{cases_lt, lt-ltb, le-ltb}
use Rattle.refusals.specs.declared.Refusal.{Refusal}
use Rattle.refusals.specs.declared.Refusal.TheVariants.{ManyCues, ListShort, StripShort}
use Rattle.orders.proofs.Among.{among_short}
use Rattle.history.specs.declared.Entry.{Entry}
use Rattle.history.specs.Entries.{committed}
use Rattle.history.specs.Order.{committed_cues, conflict_order}
use Rattle.history.specs.Views.{view_order}
use Rattle.history.specs.Answers.{ordered, cyclic, outcome, AnswersOrder, ShownKeepsView, AnswersViews}
use Rattle.graphs.specs.declared.Found.{Found}
use Rattle.graphs.specs.declared.Found.TheVariants.{Order, Cycle}
use Rattle.serial.specs.OrderAnswer.{order_refusal, cycle_in, order_answer, order_list, shown_in}
use Rattle.serial.proofs.Cells.{order_cells, cycle_cells, order_refused}
use Rattle.views.specs.Answer.{views_refusal, views_answer, views_list, ViewsRight}
use Rattle.views.proofs.AnswerRight.{found_views, found_none, views_refused}
use Rattle.runs.specs.Answers.{OrderShown, ViewsShown}

-- more cells than there can be cues are as good as one for each
cells_few : (cells many most : ℕ) → many ≤ most → ltb (min cells most) many ≡ ltb cells many
cells_few cells many most h =
    elim (cases_lt cells many) [
      | inl l ↦ lt-ltb (min cells most) many (omega arith) ∙ sym (lt-ltb cells many l)
      | inr l ↦ le-ltb (min cells most) many (omega arith) ∙ sym (le-ltb cells many l)
    ]

-- how much of 64 cells is lent
pub front_long : (most n : ℕ) → n ≡ min most 64 → length {A = ℕ} (take n (replicate 64 0)) ≡ min most 64
front_long most n is = omega (arith, length-take {A = ℕ} n (replicate 64 0), length-replicate {A = ℕ} 64 0, is)

module _ {K : Type 0} (es : List (Entry K)) where
  pub order_lent : (cells bytes : ℕ) → order_refusal es (min cells 64) (min bytes 64) ≡ order_refusal es cells bytes
  order_lent cells bytes =
      let many = length (committed_cues es) in
      (λ i. cond (cells_few bytes 64 64 (omega arith) i) (Some StripShort) (cond (cells_few cells many 64 (among_short (committed es)) i) (Some ListShort) None))

  pub views_lent : (cells : ℕ) → views_refusal es (min cells 64) ≡ views_refusal es cells
  views_lent cells =
      let many = length (committed_cues es) in
      (λ i. cond (ltb 8 many) (Some ManyCues) (cond (cells_few cells many 64 (among_short (committed es)) i) (Some ListShort) None))

module _ {K : Type 0} (alike : K → K → Bool) (es : List (Entry K)) (cells bytes : ℕ) (list strip new rest : List ℕ) (few : length list ≡ min cells 64) (thin : length strip ≡ min bytes 64) where
  lent : order_refusal es (length list) (length strip) ≡ order_refusal es cells bytes
  lent = (λ i. order_refusal es (few i) (thin i)) ∙ order_lent es cells bytes

  -- what order promises of its answer
  record Promised (f : Found) : Type 0 where
    answer : Ok f ≡ order_answer alike es list strip (cycle_in (Ok f) new)
    after : new ≡ order_list alike es list strip (cycle_in (Ok f) new)
    right : AnswersOrder alike es (shown_in f new)
    view : ShownKeepsView alike es (shown_in f new)

  order_promised : (n : ℕ) → Promised (Order n) → OrderShown alike es cells bytes (ordered (take n (new ++ rest)))
  order_promised n p =
      let got = order_cells rest list [] n new (order_refusal es (length list) (length strip)) (conflict_order alike es) p.answer p.after in
      record {
        taken = sym lent ∙ got.taken;
        order = got.more;
        right = subst (λ (o : Option (List ℕ)). AnswersOrder alike es (outcome o [])) (sym got.cells ∙ got.more) p.right;
        view = subst (λ (o : Option (List ℕ)). ShownKeepsView alike es (outcome o [])) (sym got.cells ∙ got.more) p.view;
      }

  cycle_promised : (n : ℕ) → Promised (Cycle n) → OrderShown alike es cells bytes (cyclic (take n (new ++ rest)))
  cycle_promised n p =
      let got = cycle_cells rest list (take n new) n new (order_refusal es (length list) (length strip)) (conflict_order alike es) p.answer p.after in
      record {
        taken = sym lent ∙ got.taken;
        order = got.none;
        right = subst (λ (c : List ℕ). AnswersOrder alike es (cyclic c)) got.same p.right;
        view = tt;
      }

  module _ (f : Found) (answer : Ok f ≡ order_answer alike es list strip (cycle_in (Ok f) new)) (after : new ≡ order_list alike es list strip (cycle_in (Ok f) new)) (right : AnswersOrder alike es (shown_in f new)) (view : ShownKeepsView alike es (shown_in f new)) where
    promised : Promised f
    promised = record { answer = answer; after = after; right = right; view = view }

    pub order_shown : (n : ℕ) → f ≡ Order n → OrderShown alike es cells bytes (ordered (take n (new ++ rest)))
    order_shown n is = order_promised n (subst Promised is promised)

    pub cycle_shown : (n : ℕ) → f ≡ Cycle n → OrderShown alike es cells bytes (cyclic (take n (new ++ rest)))
    cycle_shown n is = cycle_promised n (subst Promised is promised)

  pub order_not_taken : (e : Refusal) → Err e ≡ order_answer alike es list strip [] → order_refusal es cells bytes ≡ Some e
  order_not_taken e a = sym lent ∙ order_refused rest list [] e (order_refusal es (length list) (length strip)) (conflict_order alike es) a

-- the same of views
module _ {K : Type 0} (alike : K → K → Bool) (es : List (Entry K)) (cells : ℕ) (list new rest : List ℕ) (few : length list ≡ min cells 64) where
  lent_views : views_refusal es (length list) ≡ views_refusal es cells
  lent_views = (λ i. views_refusal es (few i)) ∙ views_lent es cells

  record PromisedViews (o : Option ℕ) : Type 0 where
    answer : Ok o ≡ views_answer alike es list
    after : new ≡ views_list alike es list
    right : ViewsRight alike es new (Ok o)

  views_promised : (n : ℕ) → PromisedViews (Some n) → ViewsShown alike es cells (Some (take n (new ++ rest)))
  views_promised n p =
      let got = found_views rest n list new (views_refusal es (length list)) (view_order alike es) p.answer p.after in
      record {
        taken = sym lent_views ∙ got.taken;
        order = got.more;
        right = subst (AnswersViews alike es) (sym got.cells ∙ got.more) p.right;
      }

  none_promised : PromisedViews None → ViewsShown alike es cells None
  none_promised p =
      let got = found_none (views_refusal es (length list)) (view_order alike es) p.answer in
      record { taken = sym lent_views ∙ got.0; order = got.1; right = p.right }

  module _ (o : Option ℕ) (answer : Ok o ≡ views_answer alike es list) (after : new ≡ views_list alike es list) (right : ViewsRight alike es new (Ok o)) where
    promised_views : PromisedViews o
    promised_views = record { answer = answer; after = after; right = right }

    pub views_shown : (n : ℕ) → o ≡ Some n → ViewsShown alike es cells (Some (take n (new ++ rest)))
    views_shown n is = views_promised n (subst PromisedViews is promised_views)

    pub none_shown : o ≡ None → ViewsShown alike es cells None
    none_shown is = none_promised (subst PromisedViews is promised_views)

  pub views_not_taken : (e : Refusal) → Err e ≡ views_answer alike es list → views_refusal es cells ≡ Some e
  views_not_taken e a = sym lent_views ∙ views_refused e (views_refusal es (length list)) (view_order alike es) a
