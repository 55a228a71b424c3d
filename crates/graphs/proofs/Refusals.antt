-- When a search is refused.
use Rattle.std.proofs.Common.{◌≡◌, ℕ, ◌<◌, Bool, cond, ltb, length, Some, None, Option, sym, refl, ap, ◌∙◌, subst, inl, inr}
use Rattle.std.proofs.lemmas.Bool.{cases_lt, cond-true, lt-ltb}
use Rattle.refusals.specs.declared.Refusal.{Refusal}
use Rattle.refusals.specs.declared.Refusal.TheVariants.{ListShort, StripShort}
use Rattle.orders.specs.Orders.{among}
use Rattle.graphs.specs.Answer.{search_refusal}
use Rattle.graphs.specs.RefusalLaws.{IsSearchRefusal, SearchRefusalIsTold}
use Rattle.graphs.proofs.Fills.{list_refused, not_refused}

module _ (has : ℕ → Bool) (cells bytes : ℕ) where
  strip_refused : bytes < 64 → search_refusal has cells bytes ≡ Some StripShort
  strip_refused short = cond-true (ltb bytes 64) (Some StripShort) (cond (ltb cells (length (among has))) (Some ListShort) None) (lt-ltb bytes 64 short)

  is_right : IsSearchRefusal (length (among has)) cells bytes (search_refusal has cells bytes)
  is_right =
      elim (cases_lt bytes 64) [
        | inl short ↦ rw (strip_refused short) (inl (refl, short))
        | inr long ↦ elim (cases_lt cells (length (among has))) [
          | inl few ↦ rw (list_refused has cells bytes long few) (inr (refl, long, few))
          | inr room ↦ rw (not_refused has cells bytes long room) (long, room)
        ]
      ]

  right_is : (o : Option Refusal) → IsSearchRefusal (length (among has)) cells bytes o → search_refusal has cells bytes ≡ o
  right_is None h = not_refused has cells bytes h.0 h.1
  right_is (Some e) (inl h) = strip_refused h.1 ∙ ap Some (sym h.0)
  right_is (Some e) (inr h) = list_refused has cells bytes h.1 h.2 ∙ ap Some (sym h.0)

pub search_refusal_told : SearchRefusalIsTold
search_refusal_told has cells bytes o = (
  λ e. subst (IsSearchRefusal (length (among has)) cells bytes) e (is_right has cells bytes),
  right_is has cells bytes o,
)
