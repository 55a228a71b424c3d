-- When views are refused.
use Rattle.std.proofs.Common.{◌≡◌, ℕ, ◌<◌, ◌≤◌, cond, ltb, length, Some, None, Option, sym, refl, ap, ◌∙◌, subst, inl, inr}
use Rattle.std.proofs.lemmas.Bool.{cases_lt, cond-true, cond-false, le-ltb, lt-ltb}
use Rattle.refusals.specs.declared.Refusal.{Refusal}
use Rattle.refusals.specs.declared.Refusal.TheVariants.{ManyCues, ListShort}
use Rattle.history.specs.Order.{committed_cues}
use Rattle.views.specs.RefusalLaws.{IsViewsRefusal, ViewsRefusalIsTold}

module _ (cues cells : ℕ) where
  abbrev refusal_for : Option Refusal
  refusal_for = cond (ltb 8 cues) (Some ManyCues) (cond (ltb cells cues) (Some ListShort) None)

  many : 8 < cues → refusal_for ≡ Some ManyCues
  many more = cond-true (ltb 8 cues) (Some ManyCues) (cond (ltb cells cues) (Some ListShort) None) (lt-ltb 8 cues more)

  short : cues ≤ 8 → cells < cues → refusal_for ≡ Some ListShort
  short few less =
      cond-false (ltb 8 cues) (Some ManyCues) (cond (ltb cells cues) (Some ListShort) None) (le-ltb 8 cues few)
      ∙ cond-true (ltb cells cues) (Some ListShort) None (lt-ltb cells cues less)

  taken : cues ≤ 8 → cues ≤ cells → refusal_for ≡ None
  taken few room =
      cond-false (ltb 8 cues) (Some ManyCues) (cond (ltb cells cues) (Some ListShort) None) (le-ltb 8 cues few)
      ∙ cond-false (ltb cells cues) (Some ListShort) None (le-ltb cells cues room)

  is_right : IsViewsRefusal cues cells refusal_for
  is_right =
      elim (cases_lt 8 cues) [
        | inl more ↦ rw (many more) (inl (refl, more))
        | inr few ↦ elim (cases_lt cells cues) [
          | inl less ↦ rw (short few less) (inr (refl, few, less))
          | inr room ↦ rw (taken few room) (few, room)
        ]
      ]

  right_is : (o : Option Refusal) → IsViewsRefusal cues cells o → refusal_for ≡ o
  right_is None h = taken h.0 h.1
  right_is (Some e) (inl h) = many h.1 ∙ ap Some (sym h.0)
  right_is (Some e) (inr h) = short h.1 h.2 ∙ ap Some (sym h.0)

pub views_refusal_told : (K : Type 0) → ViewsRefusalIsTold K
views_refusal_told K es cells o =
    let cues = length (committed_cues es) in
    (λ e. subst (IsViewsRefusal cues cells) e (is_right cues cells), right_is cues cells o)
