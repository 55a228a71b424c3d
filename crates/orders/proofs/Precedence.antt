-- What comes before what in an order.
use Rattle.std.proofs.Common.{◌≡◌, ℕ, zero, suc, ◌<◌, Bool, true, false, cond, ◌||◌, eqb, ◌⊎◌, List, [], ◌∷◌, Some, sym, refl, ap, ◌∙◌, subst, inl, inr, arith}
use Rattle.std.specs.List.{slice_get}
use Rattle.std.proofs.lemmas.Bool.{false≢true, both_ways, cases_Bool, cond-true, cond-false, eq-eqb, eqb-true, ne_eqb, or_cases, or_left, or_right}
use Rattle.lists.specs.Lists.{has}
use Rattle.orders.specs.Orders.{without, precedes}
use Rattle.lists.proofs.Places.{some_at, at_some}
use Rattle.orders.specs.Least.{Stands, Distinct, Rearranges, ComesBefore}

pub cond_cases : (t x y : Bool) → cond t x y ≡ true → ((t ≡ true) × (x ≡ true)) ⊎ ((t ≡ false) × (y ≡ true))
cond_cases true x y h = inl (refl, h)
cond_cases false x y h = inr (refl, h)

pub has_first : (n : ℕ) (ns : List ℕ) → has n (n ∷ ns) ≡ true
has_first n ns = or_left (eqb n n) (has n ns) (eq-eqb n n refl)

-- one that is absent is another than one that is there
pub has_other : (a b : ℕ) (ns : List ℕ) → has a ns ≡ false → has b ns ≡ true → eqb a b ≡ false
has_other a b ns f t = ne_eqb a b (λ e. both_ways (has a ns) f (ap (λ (n : ℕ). has n ns) e ∙ t))

pub precedes_has : (a b : ℕ) (o : List ℕ) → precedes a b o ≡ true → has b o ≡ true
precedes_has a b [] h = h
precedes_has a b (n ∷ ns) h =
    elim (cond_cases (eqb n a) (has b ns) (precedes a b ns) h) [
      | inl k ↦ or_right (eqb n b) (has b ns) k.1
      | inr k ↦ or_right (eqb n b) (has b ns) (precedes_has a b ns k.1)
    ]

pub precedes_on : (a b c : ℕ) (o : List ℕ) → Distinct o → precedes a b o ≡ true → precedes b c o ≡ true → precedes a c o ≡ true
precedes_on a b c [] d h k = h
precedes_on a b c (n ∷ ns) d h k =
    elim (cond_cases (eqb n a) (has b ns) (precedes a b ns) h) [
      | inl l ↦
          let other : eqb n b ≡ false = has_other n b ns d.0 l.1 in
          cond-true (eqb n a) (has c ns) (precedes a c ns) l.0
          ∙ precedes_has b c ns (sym (cond-false (eqb n b) (has c ns) (precedes b c ns) other) ∙ k)
      | inr l ↦
          let other : eqb n b ≡ false = has_other n b ns d.0 (precedes_has a b ns l.1) in
          cond-false (eqb n a) (has c ns) (precedes a c ns) l.0
          ∙ precedes_on a b c ns d.1 l.1 (sym (cond-false (eqb n b) (has c ns) (precedes b c ns) other) ∙ k)
    ]

pub precedes_never : (a : ℕ) (o : List ℕ) → Distinct o → precedes a a o ≡ true → ⊥
precedes_never a [] d h = false≢true h
precedes_never a (n ∷ ns) d h =
    elim (cond_cases (eqb n a) (has a ns) (precedes a a ns) h) [
      | inl k ↦ both_ways (eqb n a) (has_other n a ns d.0 k.1) k.0
      | inr k ↦ precedes_never a ns d.1 k.1
    ]

pub stands_has : (m : ℕ) (us : List ℕ) → Stands m us → has m us ≡ true
stands_has m [] h = absurd h
stands_has m (u ∷ us) (inl e) = or_left (eqb u m) (has m us) (eq-eqb u m e)
stands_has m (u ∷ us) (inr h) = or_right (eqb u m) (has m us) (stands_has m us h)

pub has_stands : (m : ℕ) (us : List ℕ) → has m us ≡ true → Stands m us
has_stands m [] h = absurd (false≢true h)
has_stands m (u ∷ us) h = elim (or_cases (eqb u m) (has m us) h) [ inl t ↦ inl (eqb-true u m t) | inr k ↦ inr (has_stands m us k) ]

has_without : (x : ℕ) (us : List ℕ) → has x (without x us) ≡ false
has_without x [] = refl
has_without x (u ∷ us) = elim (cases_Bool (eqb u x)) [ inl t ↦ rw t (has_without x us) | inr f ↦ rw f (rw f (has_without x us)) ]

without_other : (x m : ℕ) (us : List ℕ) → eqb x m ≡ false → has m (without x us) ≡ has m us
without_other x m [] h = refl
without_other x m (u ∷ us) h =
    let ih : has m (without x us) ≡ has m us = without_other x m us h in
    elim (cases_Bool (eqb u x)) [
      | inl t ↦
          let e : eqb u m ≡ false = ap (λ (n : ℕ). eqb n m) (eqb-true u x t) ∙ h in
          rw t (ih ∙ sym (ap (λ (b : Bool). b || has m us) e))
      | inr f ↦ rw f (ap (λ (b : Bool). eqb u m || b) ih)
    ]

-- a rearrangement has the same numbers, each once
pub rearranged_has : (us o : List ℕ) → Rearranges us o → (m : ℕ) → has m o ≡ has m us
rearranged_has us [] h m = sym (ap (has m) h)
rearranged_has us (x ∷ o) h m =
    elim (cases_Bool (eqb x m)) [
      | inl t ↦ or_left (eqb x m) (has m o) t ∙ sym (ap (λ (n : ℕ). has n us) (sym (eqb-true x m t)) ∙ stands_has x us h.0)
      | inr f ↦ ap (λ (b : Bool). b || has m o) f ∙ rearranged_has (without x us) o h.1 m ∙ without_other x m us f
    ]

pub rearranged_distinct : (us o : List ℕ) → Rearranges us o → Distinct o
rearranged_distinct us [] h = tt
rearranged_distinct us (x ∷ o) h = (rearranged_has (without x us) o h.1 x ∙ has_without x us, rearranged_distinct (without x us) o h.1)

-- and numbers that are the same, each once, are a rearrangement
pub rearranges_same : (us o : List ℕ) → Distinct o → ((m : ℕ) → has m o ≡ has m us) → Rearranges us o
rearranges_same [] [] d same = refl
rearranges_same (u ∷ us) [] d same = absurd (false≢true (same u ∙ has_first u us))
rearranges_same us (x ∷ o) d same = (
  has_stands x us (sym (same x) ∙ has_first x o),
  rearranges_same (without x us) o d.1
      (λ m. elim (cases_Bool (eqb x m)) [
        | inl t ↦ let e : x ≡ m = eqb-true x m t in subst (λ (n : ℕ). has n o ≡ has n (without x us)) e (d.0 ∙ sym (has_without x us))
        | inr f ↦ sym (ap (λ (b : Bool). b || has m o) f) ∙ same m ∙ sym (without_other x m us f)
      ]),
)

-- the test tells of the cells
pub precedes_comes : (a b : ℕ) (o : List ℕ) → precedes a b o ≡ true → ComesBefore a b o
precedes_comes a b [] h = absurd (false≢true h)
precedes_comes a b (n ∷ ns) h =
    elim (cond_cases (eqb n a) (has b ns) (precedes a b ns) h) [
      | inl k ↦
          let r = some_at (λ m. eqb m b) ns k.1 in
          record { i = 0; j = suc r.0; first = ap Some (eqb-true n a k.0); second = r.2 ∙ ap Some (eqb-true r.1 b r.3); before = omega arith }
      | inr k ↦
          let r = precedes_comes a b ns k.1 in
          record { i = suc r.i; j = suc r.j; first = r.first; second = r.second; before = omega (arith, r.before) }
    ]

precedes_at : (a b : ℕ) (o : List ℕ) (i j : ℕ) → i < j → slice_get o i ≡ Some a → slice_get o j ≡ Some b → precedes a b o ≡ true
precedes_at a b [] i j l gi gj = cc
precedes_at a b (n ∷ ns) i zero l gi gj = absurd (omega arith)
precedes_at a b (n ∷ ns) zero (suc j) l gi gj =
    let e : n ≡ a = cc in
    cond-true (eqb n a) (has b ns) (precedes a b ns) (eq-eqb n a e) ∙ at_some (λ m. eqb m b) ns j b gj (eq-eqb b b refl)
precedes_at a b (n ∷ ns) (suc i) (suc j) l gi gj =
    elim (cases_Bool (eqb n a)) [
      | inl t ↦ cond-true (eqb n a) (has b ns) (precedes a b ns) t ∙ at_some (λ m. eqb m b) ns j b gj (eq-eqb b b refl)
      | inr f ↦ cond-false (eqb n a) (has b ns) (precedes a b ns) f ∙ precedes_at a b ns i j (omega arith) gi gj
    ]

pub comes_precedes : (a b : ℕ) (o : List ℕ) → ComesBefore a b o → precedes a b o ≡ true
comes_precedes a b o c = precedes_at a b o c.i c.j c.before c.first c.second
