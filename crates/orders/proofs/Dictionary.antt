-- Dictionary order by indices, and that it is total.
use Rattle.std.proofs.Common.{◌≡◌, ℕ, zero, suc, ◌<◌, ◌↔◌, ◌⊎◌, List, [], ◌∷◌, Some, sym, refl, ap, subst, inl, inr, arith}
use Rattle.std.specs.List.{slice_get}
use Rattle.std.proofs.lemmas.Bool.{cases_eq, cases_lt}
use Rattle.orders.specs.Orders.{without}
use Rattle.orders.specs.Least.{Stands, Rearranges, Before, LessAtFirstDifference, OneComesBefore}

same_onward : (x y : ℕ) (o p : List ℕ) (i : ℕ) → x ≡ y → ((j : ℕ) → j < i → slice_get o j ≡ slice_get p j) → (j : ℕ) → j < suc i → slice_get (x ∷ o) j ≡ slice_get (y ∷ p) j
same_onward x y o p i e same zero l = ap Some e
same_onward x y o p i e same (suc j) l = same j (omega arith)

before_index : (o p : List ℕ) → Before o p → LessAtFirstDifference o p
before_index [] p h = absurd h
before_index (x ∷ o) [] h = absurd h
before_index (x ∷ o) (y ∷ p) (inl l) =
    record {
      i = 0;
      smaller = x;
      larger = y;
      here = refl;
      there = refl;
      less = l;
      same = λ j k. absurd (omega (arith, k));
    }
before_index (x ∷ o) (y ∷ p) (inr h) =
    let r = before_index o p h.1 in
    record {
      i = suc r.i;
      smaller = r.smaller;
      larger = r.larger;
      here = r.here;
      there = r.there;
      less = r.less;
      same = same_onward x y o p r.i h.0 r.same;
    }

index_before : (o p : List ℕ) (i a b : ℕ) → slice_get o i ≡ Some a → slice_get p i ≡ Some b → a < b → ((j : ℕ) → j < i → slice_get o j ≡ slice_get p j) → Before o p
index_before [] p i a b h k l same = cc
index_before (x ∷ o) [] i a b h k l same = cc
index_before (x ∷ o) (y ∷ p) zero a b h k l same =
    let d : x ≡ a = cc in
    let e : y ≡ b = cc in
    inl (omega (arith, d, e))
index_before (x ∷ o) (y ∷ p) (suc i) a b h k l same =
    let first : Some x ≡ Some y = same 0 (omega arith) in
    let e : x ≡ y = cc in
    inr (e, index_before o p i a b h k l (λ j m. same (suc j) (omega (arith, m))))

pub before_is : (o p : List ℕ) → Before o p ↔ LessAtFirstDifference o p
before_is o p = (before_index o p, λ r. index_before o p r.i r.smaller r.larger r.here r.there r.less r.same)

pub before_once : (o p : List ℕ) → Before o p → Before p o → ⊥
before_once [] p h k = h
before_once (x ∷ o) [] h k = h
before_once (x ∷ o) (y ∷ p) (inl h) (inl k) = omega arith
before_once (x ∷ o) (y ∷ p) (inl h) (inr k) = omega (arith, k.0)
before_once (x ∷ o) (y ∷ p) (inr h) (inl k) = omega (arith, h.0)
before_once (x ∷ o) (y ∷ p) (inr h) (inr k) = before_once o p h.1 k.1

before_either : (us o p : List ℕ) → Rearranges us o → Rearranges us p → (o ≡ p) ⊎ (Before o p ⊎ Before p o)
before_either us [] [] h k = inl refl
before_either us [] (y ∷ p) h k = absurd (subst (Stands y) h k.0)
before_either us (x ∷ o) [] h k = absurd (subst (Stands x) k h.0)
before_either us (x ∷ o) (y ∷ p) h k =
    elim (cases_eq x y) [
      | inl e ↦ elim (before_either (without x us) o p h.1 (subst (λ (z : ℕ). Rearranges (without z us) p) (sym e) k.1)) [
        | inl same ↦ inl (λ i. e i ∷ same i)
        | inr one ↦ elim one [ inl b ↦ inr (inl (inr (e, b))) | inr a ↦ inr (inr (inr (sym e, a))) ]
      ]
      | inr ne ↦ elim (cases_lt x y) [
        | inl l ↦ inr (inl (inl l))
        | inr l ↦ inr (inr (inl (omega (arith, l, ne))))
      ]
    ]

pub one_comes_before : OneComesBefore
one_comes_before = record { either = before_either; never_both = before_once }
