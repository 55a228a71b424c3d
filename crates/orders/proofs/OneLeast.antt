-- There is one least order that passes, and where some order passes it is found.
use Rattle.std.proofs.Common.{◌≡◌, ℕ, Bool, true, List, Some, None, Option, sym, refl, ap, inl, inr}
use Rattle.orders.specs.Orders.{among, first_where, orders}
use Rattle.orders.specs.Least.{Rearranges, Least, FirstIsLeast, NoneIsNone}
use Rattle.orders.proofs.Dictionary.{before_once}
use Rattle.orders.proofs.Leasts.{first_is_least, none_is_none}

module _ (has : ℕ → Bool) (p : List ℕ → Bool) where
  one_least : (a b : List ℕ) → Least has p a → Least has p b → a ≡ b
  one_least a b l m =
      elim (l.least b m.order m.passes) [
        | inl e ↦ e
        | inr h ↦ elim (m.least a l.order l.passes) [ inl e ↦ sym e | inr k ↦ absurd (before_once a b h k) ]
      ]

  least_found : (o : List ℕ) → Least has p o → (r : Option (List ℕ)) → first_where p (orders (among has)) ≡ r → r ≡ Some o
  least_found o l None e = absurd (none_is_none has p e o l.order l.passes)
  least_found o l (Some a) e = ap Some (one_least a o (first_is_least has p a e) l)

  nothing_found : ((q : List ℕ) → Rearranges (among has) q → p q ≡ true → ⊥) → (r : Option (List ℕ)) → first_where p (orders (among has)) ≡ r → r ≡ None
  nothing_found none None e = refl
  nothing_found none (Some a) e = let l = first_is_least has p a e in absurd (none a l.order l.passes)

pub first_is_the_least : FirstIsLeast
first_is_the_least has p o =
    (first_is_least has p o, λ l. least_found has p o l (first_where p (orders (among has))) refl)

pub none_is_found : NoneIsNone
none_is_found has p =
    (none_is_none has p, λ none. nothing_found has p none (first_where p (orders (among has))) refl)
