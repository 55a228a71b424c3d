-- Two tests that agree on every rearrangement have the same first order. Assumes nothing.
use Rattle.std.proofs.Common.{◌≡◌, ℕ, Bool, List, Some, None, Option, sym, refl, ap, ◌∙◌, inl, inr}
use Rattle.orders.specs.Orders.{among, first_where, orders}
use Rattle.orders.specs.Least.{Rearranges}
use Rattle.orders.proofs.Dictionary.{before_once}
use Rattle.orders.proofs.Leasts.{first_is_least, none_is_none}

module _ (has : ℕ → Bool) (p q : List ℕ → Bool) (same : (o : List ℕ) → Rearranges (among has) o → p o ≡ q o) where
  both_firsts : (a b : Option (List ℕ)) → first_where p (orders (among has)) ≡ a → first_where q (orders (among has)) ≡ b → a ≡ b
  both_firsts None None ea eb = refl
  both_firsts None (Some o) ea eb =
      let l = first_is_least has q o eb in
      absurd (none_is_none has p ea o l.order (same o l.order ∙ l.passes))
  both_firsts (Some o) None ea eb =
      let l = first_is_least has p o ea in
      absurd (none_is_none has q eb o l.order (sym (same o l.order) ∙ l.passes))
  both_firsts (Some a) (Some b) ea eb =
      let l = first_is_least has p a ea in
      let m = first_is_least has q b eb in
      let one : a ≡ b =
      elim (l.least b m.order (same b m.order ∙ m.passes)) [
        | inl e ↦ e
        | inr h ↦ elim (m.least a l.order (sym (same a l.order) ∙ l.passes)) [ inl e ↦ sym e | inr k ↦ absurd (before_once a b h k) ]
      ] in
      ap Some one

  pub same_first : first_where p (orders (among has)) ≡ first_where q (orders (among has))
  same_first = both_firsts (first_where p (orders (among has))) (first_where q (orders (among has))) refl refl
