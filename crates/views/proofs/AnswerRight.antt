-- What is answered with its list is right.
use Rattle.std.proofs.Common.{◌≡◌, ℕ, Bool, List, [], ◌++◌, length, take, drop, Some, None, Ok, Err, Option, Result, sym, refl, ap, ◌∙◌, append_assoc}
use Rattle.std.proofs.lemmas.List.{take_at}
use Rattle.refusals.specs.declared.Refusal.{Refusal}
use Rattle.history.specs.declared.Entry.{Entry}
use Rattle.history.specs.Views.{view_order}
use Rattle.equivalence.specs.Laws.{Sameness}
use Rattle.equivalence.proofs.FirstOrders.{views_right}
use Rattle.views.specs.Answer.{views_refusal, answered, left, views_answer, views_list, ViewsRight}

-- an answer that is no refusal, with the list that it leaves: what stands in the first cells, whatever
-- follows the list
module _ (rest : List ℕ) where
  pub record FoundViews (n : ℕ) (list' : List ℕ) (r : Option Refusal) (v : Option (List ℕ)) : Type 0 where
    pub taken : r ≡ None
    pub cells : v ≡ Some (take n list')
    pub more : v ≡ Some (take n (list' ++ rest))

  pub found_views : (n : ℕ) (list cells : List ℕ) (r : Option Refusal) (v : Option (List ℕ)) → Ok (Some n) ≡ answered r v → cells ≡ left r v list → FoundViews n cells r v
  found_views n list cells (Some e) v a l = cc
  found_views n list cells None None a l = cc
  found_views n list cells None (Some o) a l =
      let long : length o ≡ n = cc in
      let after = drop (length o) list in
      record {
        taken = refl;
        cells = ap Some (sym (ap (take n) l ∙ take_at o after n long));
        more = ap Some (sym (ap (λ (xs : List ℕ). take n (xs ++ rest)) l ∙ ap (take n) (append_assoc o after rest) ∙ take_at o (after ++ rest) n long));
      }

pub found_none : (r : Option Refusal) (v : Option (List ℕ)) → Ok None ≡ answered r v → (r ≡ None) × (v ≡ None)
found_none (Some e) v a = cc
found_none None None a = (refl, refl)
found_none None (Some o) a = cc

pub views_refused : (e : Refusal) (r : Option Refusal) (v : Option (List ℕ)) → Err e ≡ answered r v → r ≡ Some e
views_refused e (Some f) v a = cc
views_refused e None v a = cc

module _ {K : Type 0} (alike : K → K → Bool) (same : Sameness alike) (es : List (Entry K)) (list cells : List ℕ) where
  pub shown_right : (r : Result (Option ℕ) Refusal) → r ≡ views_answer alike es list → cells ≡ views_list alike es list → ViewsRight alike es cells r
  shown_right (Ok (Some n)) a l = views_right alike same es (Some (take n cells)) (found_views [] n list cells (views_refusal es (length list)) (view_order alike es) a l).cells
  shown_right (Ok None) a l = views_right alike same es None (found_none (views_refusal es (length list)) (view_order alike es) a).1
  shown_right (Err e) a l = tt
