-- The orders of distinct numbers by their first number, and the first of them that passes. Assumes nothing.
use Rattle.std.proofs.Common.{◌≡◌, ℕ, zero, suc, Bool, true, false, not, ◌&&◌, ◌||◌, eqb, List, [], ◌∷◌, ◌++◌, map, length, filter, sym, refl, ap, ◌∙◌, inl, inr, arith}
use Rattle.std.specs.Option.{option_map}
use Rattle.std.specs.List.{flat_map, AllByRecursion as All}
use Rattle.std.proofs.ByRecursion.{All-weaker, All-map}
use Rattle.std.proofs.lemmas.Bool.{cases_Bool, eq-eqb, eqb-true, or_left, or_right, or_parts, or_from}
use Rattle.lists.specs.Lists.{some, has, or_else}
use Rattle.orders.specs.Orders.{without, first_where, orders_of, orders}
use Rattle.orders.specs.Least.{Stands, Rearranges, Distinct}
use Rattle.orders.proofs.First.{all_join, all_mem}
use Rattle.orders.proofs.Precedence.{has_other, stands_has}

module _ {X : Type 0} where
  pub first_same : (p q : X → Bool) (os : List X) → All (λ o. p o ≡ q o) os → first_where p os ≡ first_where q os
  first_same p q [] h = refl
  first_same p q (o ∷ os) h =
      let ih : first_where p os ≡ first_where q os = first_same p q os h.1 in
      rw (h.0, ih) refl

  pub first_append : (p : X → Bool) (xs ys : List X) → first_where p (xs ++ ys) ≡ or_else (first_where p xs) (first_where p ys)
  first_append p [] ys = refl
  first_append p (x ∷ xs) ys = elim (cases_Bool (p x)) [ inl t ↦ rw t refl | inr f ↦ rw f (first_append p xs ys) ]

pub first_map : (p : List ℕ → Bool) (x : ℕ) (os : List (List ℕ)) → first_where p (map (λ o. x ∷ o) os) ≡ option_map (λ o. x ∷ o) (first_where (λ o. p (x ∷ o)) os)
first_map p x [] = refl
first_map p x (o ∷ os) = elim (cases_Bool (p (x ∷ o))) [ inl t ↦ rw t refl | inr f ↦ rw f (first_map p x os) ]

pub without_kept : (x : ℕ) (U : ℕ → Bool) (cs : List ℕ) → without x (filter U cs) ≡ filter (λ y. not (eqb y x) && U y) cs
without_kept x U [] = refl
without_kept x U (c ∷ cs) =
    let ih : without x (filter U cs) ≡ filter (λ y. not (eqb y x) && U y) cs = without_kept x U cs in
    elim (cases_Bool (U c)) [
      | inl t ↦ elim (cases_Bool (eqb c x)) [ inl e ↦ rw (t, e) ih | inr f ↦ rw (t, f) (ap (λ (r : List ℕ). c ∷ r) ih) ]
      | inr n ↦ elim (cases_Bool (eqb c x)) [ inl e ↦ rw (n, e) ih | inr f ↦ rw (n, f) ih ]
    ]

-- one that stands in the list, taken out
module _ (test : ℕ → Bool) where
  some_stands : (x : ℕ) (us : List ℕ) → Stands x us → test x ≡ true → some test us ≡ true
  some_stands x [] s t = absurd s
  some_stands x (u ∷ us) (inl e) t = or_left (test u) (some test us) (ap test e ∙ t)
  some_stands x (u ∷ us) (inr s) t = or_right (test u) (some test us) (some_stands x us s t)

  some_but : (x : ℕ) (us : List ℕ) → test x ≡ false → some test (without x us) ≡ some test us
  some_but x [] f = refl
  some_but x (u ∷ us) f =
      let ih : some test (without x us) ≡ some test us = some_but x us f in
      elim (cases_Bool (eqb u x)) [
        | inl e ↦ let fu : test u ≡ false = ap test (eqb-true u x e) ∙ f in rw (e, fu) ih
        | inr n ↦ rw n (ap (λ (b : Bool). test u || b) ih)
      ]

  pub some_without : (x : ℕ) (us : List ℕ) → Stands x us → some test us ≡ (test x || some test (without x us))
  some_without x us s =
      elim (cases_Bool (test x)) [
        | inl t ↦ some_stands x us s t ∙ sym (or_left (test x) (some test (without x us)) t)
        | inr f ↦ sym (ap (λ (b : Bool). b || some test (without x us)) f ∙ some_but x us f)
      ]

  pub some_rearranged : (us o : List ℕ) → Rearranges us o → some test o ≡ some test us
  some_rearranged us [] h = sym (ap (some test) h)
  some_rearranged us (x ∷ o) h = ap (λ (b : Bool). test x || b) (some_rearranged (without x us) o h.1) ∙ sym (some_without x us h.0)

without_absent : (x : ℕ) (us : List ℕ) → has x us ≡ false → without x us ≡ us
without_absent x [] h = refl
without_absent x (u ∷ us) h =
    let p = or_parts (eqb u x) (has x us) h in
    let f : eqb u x ≡ false = p.0 in
    rw f (ap (λ (r : List ℕ). u ∷ r) (without_absent x us p.1))

has_kept : (m : ℕ) (U : ℕ → Bool) (us : List ℕ) → has m us ≡ false → has m (filter U us) ≡ false
has_kept m U [] h = refl
has_kept m U (u ∷ us) h =
    let p = or_parts (eqb u m) (has m us) h in
    elim (cases_Bool (U u)) [ inl t ↦ rw t (or_from (eqb u m) (has m (filter U us)) p.0 (has_kept m U us p.1)) | inr f ↦ rw f (has_kept m U us p.1) ]

pub distinct_kept : (U : ℕ → Bool) (us : List ℕ) → Distinct us → Distinct (filter U us)
distinct_kept U [] d = tt
distinct_kept U (u ∷ us) d =
    elim (cases_Bool (U u)) [ inl t ↦ rw t (has_kept u U us d.0, distinct_kept U us d.1) | inr f ↦ rw f (distinct_kept U us d.1) ]

pub distinct_without : (x : ℕ) (us : List ℕ) → Distinct us → Distinct (without x us)
distinct_without x us d = distinct_kept (λ y. not (eqb y x)) us d

pub length_without : (x : ℕ) (us : List ℕ) → Distinct us → Stands x us → length us ≡ suc (length (without x us))
length_without x [] d s = absurd s
length_without x (u ∷ us) d (inl e) =
    let t : eqb u x ≡ true = eq-eqb u x e in
    let k : without x us ≡ us = without_absent x us (sym (ap (λ (m : ℕ). has m us) e) ∙ d.0) in
    rw (t, k) refl
length_without x (u ∷ us) d (inr s) =
    let f : eqb u x ≡ false = has_other u x us d.0 (stands_has x us s) in
    rw f (ap suc (length_without x us d.1 s))

-- the orders, by their first number
pub orders_none : orders [] ≡ [] ∷ []
orders_none = refl

pub orders_some : (n : ℕ) (us : List ℕ) → length us ≡ suc n → orders us ≡ flat_map (λ x. map (λ o. x ∷ o) (orders_of n (without x us))) us
orders_some n us l = ap (λ (k : ℕ). orders_of k us) l

pub orders_without : (n x : ℕ) (us : List ℕ) → Distinct us → Stands x us → length us ≡ suc n → orders_of n (without x us) ≡ orders (without x us)
orders_without n x us d s l =
    let one : length us ≡ suc (length (without x us)) = length_without x us d s in
    ap (λ (k : ℕ). orders_of k (without x us)) (omega (arith, one))

-- every order is a rearrangement
is_order : (n : ℕ) (us : List ℕ) → Distinct us → length us ≡ n → All (Rearranges us) (orders_of n us)
is_order zero [] d l = (refl, tt)
is_order zero (u ∷ us) d l = absurd (omega arith)
is_order (suc n) us d l =
    all_join (Rearranges us) (λ x. map (λ p. x ∷ p) (orders_of n (without x us))) us
    (All-weaker (λ x. Stands x us) (λ x. All (Rearranges us) (map (λ p. x ∷ p) (orders_of n (without x us))))
    (λ x s.
    let one : length us ≡ suc (length (without x us)) = length_without x us d s in
    All-map (Rearranges us) (λ o. x ∷ o) (orders_of n (without x us))
    (All-weaker (Rearranges (without x us)) (λ o. Rearranges us (x ∷ o)) (λ o h. (s, h)) (orders_of n (without x us)) (is_order n (without x us) (distinct_without x us d) (omega arith))))
    us (all_mem us))

pub all_rearranged : (us : List ℕ) → Distinct us → All (Rearranges us) (orders us)
all_rearranged us d = is_order (length us) us d refl
