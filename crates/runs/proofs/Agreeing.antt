-- Right answers agree.
use Rattle.std.proofs.Common.{◌≡◌, ℕ, Bool, List, Some, None, Ok, Err, Result, ap}
use Rattle.history.specs.declared.Entry.{Entry}
use Rattle.runs.specs.declared.Answer.{Answer}
use Rattle.runs.specs.declared.Answer.TheVariants as answer
use Rattle.runs.specs.declared.cues.Cues.{Cues}
use Rattle.runs.specs.declared.Failure.{Failure}
use Rattle.runs.specs.declared.Failure.TheVariants as failure
use Rattle.runs.specs.Answers.{cues_of, IsOrderAnswer, IsViewsAnswer}
use Rattle.runs.specs.Laws.{ShowsOrder, ShowsCycle, ShowsView, OrdersAgree, ViewsAgree}

module _ {K : Type 0} (alike : K → K → Bool) (es : List (Entry K)) (cells bytes : ℕ) where
  order_refused : (f : Failure) (a : Result Answer Failure) → IsOrderAnswer alike es cells bytes (Err f) → IsOrderAnswer alike es cells bytes a → a ≡ Err f
  order_refused (failure.Refused f) (Ok (answer.Order c)) h k = let taken = k.taken in cc
  order_refused (failure.Refused f) (Ok (answer.Cycle c)) h k = let taken = k.taken in cc
  order_refused (failure.Refused f) (Err (failure.Refused g)) h k = let same : g ≡ f = cc in ap (λ x. Err (failure.Refused x)) same
  order_refused (failure.Refused f) _ h k = absurd k
  order_refused _ a h k = absurd h

  order_order : (c : Cues) (a : Result Answer Failure) → IsOrderAnswer alike es cells bytes (Ok (answer.Order c)) → IsOrderAnswer alike es cells bytes a → ShowsOrder (cues_of c) a
  order_order c (Ok (answer.Order d)) h k = let one = h.order in let other = k.order in cc
  order_order c (Ok (answer.Cycle d)) h k = let one = h.order in let other = k.order in cc
  order_order c (Err (failure.Refused g)) h k = let taken = h.taken in cc
  order_order c _ h k = absurd k

  order_cycle : (c : Cues) (a : Result Answer Failure) → IsOrderAnswer alike es cells bytes (Ok (answer.Cycle c)) → IsOrderAnswer alike es cells bytes a → ShowsCycle a
  order_cycle c (Ok (answer.Order d)) h k = let one = h.order in let other = k.order in cc
  order_cycle c (Ok (answer.Cycle d)) h k = tt
  order_cycle c (Err (failure.Refused g)) h k = let taken = h.taken in cc
  order_cycle c _ h k = absurd k

module _ {K : Type 0} (alike : K → K → Bool) (es : List (Entry K)) (cells : ℕ) where
  views_refused : (f : Failure) (a : Result Answer Failure) → IsViewsAnswer alike es cells (Err f) → IsViewsAnswer alike es cells a → a ≡ Err f
  views_refused (failure.Refused f) (Ok (answer.Views (Some c))) h k = let taken = k.taken in cc
  views_refused (failure.Refused f) (Ok (answer.Views None)) h k = let taken = k.taken in cc
  views_refused (failure.Refused f) (Err (failure.Refused g)) h k = let same : g ≡ f = cc in ap (λ x. Err (failure.Refused x)) same
  views_refused (failure.Refused f) _ h k = absurd k
  views_refused _ a h k = absurd h

  views_order : (c : Cues) (a : Result Answer Failure) → IsViewsAnswer alike es cells (Ok (answer.Views (Some c))) → IsViewsAnswer alike es cells a → ShowsView (Some (cues_of c)) a
  views_order c (Ok (answer.Views (Some d))) h k = let one = h.order in let other = k.order in cc
  views_order c (Ok (answer.Views None)) h k = let one = h.order in let other = k.order in cc
  views_order c (Err (failure.Refused g)) h k = let taken = h.taken in cc
  views_order c _ h k = absurd k

  views_none : (a : Result Answer Failure) → IsViewsAnswer alike es cells (Ok (answer.Views None)) → IsViewsAnswer alike es cells a → ShowsView None a
  views_none (Ok (answer.Views (Some d))) h k = let one = h.order in let other = k.order in cc
  views_none (Ok (answer.Views None)) h k = tt
  views_none (Err (failure.Refused g)) h k = let taken = h.taken in cc
  views_none _ h k = absurd k

pub orders_agree : (K : Type 0) → OrdersAgree K
orders_agree K =
    record {
      refused = λ alike es cells bytes f a h k. order_refused alike es cells bytes f a h k;
      order = λ alike es cells bytes c a h k. order_order alike es cells bytes c a h k;
      cycle = λ alike es cells bytes c a h k. order_cycle alike es cells bytes c a h k;
    }

pub views_agree : (K : Type 0) → ViewsAgree K
views_agree K =
    record {
      refused = λ alike es cells f a h k. views_refused alike es cells f a h k;
      order = λ alike es cells c a h k. views_order alike es cells c a h k;
      none = λ alike es cells a h k. views_none alike es cells a h k;
    }
