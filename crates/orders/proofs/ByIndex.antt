-- The words of orders, by the indices of lists.
use Rattle.std.proofs.Common.{◌≡◌, ℕ, zero, suc, true, false, ◌↔◌, eqb, List, [], ◌∷◌, Some, sym, refl, ap, ◌∙◌, subst, inl, inr, arith}
use Rattle.std.specs.List.{slice_get}
use Rattle.std.proofs.lemmas.Bool.{both_ways, cases_Bool, eq-eqb, eqb-true}
use Rattle.lists.specs.Lists.{has}
use Rattle.lists.proofs.Places.{some_at}
use Rattle.orders.specs.Orders.{without}
use Rattle.orders.specs.Least.{Stands, Distinct, Rearranges, OrdersAreByIndex}
use Rattle.orders.proofs.Dictionary.{before_is}
use Rattle.orders.proofs.First.{mem_without}
use Rattle.orders.proofs.Precedence.{stands_has, rearranged_has, rearranged_distinct, precedes_comes, comes_precedes}

stands_index : (n : ℕ) (ns : List ℕ) → Stands n ns → (i : ℕ) × (slice_get ns i ≡ Some n)
stands_index n [] s = absurd s
stands_index n (m ∷ ms) (inl e) = (0, ap Some e)
stands_index n (m ∷ ms) (inr s) = let r = stands_index n ms s in (suc r.0, r.1)

index_stands : (n : ℕ) (ns : List ℕ) (i : ℕ) → slice_get ns i ≡ Some n → Stands n ns
index_stands n [] i h = cc
index_stands n (m ∷ ms) zero h = inl (let e : m ≡ n = cc in e)
index_stands n (m ∷ ms) (suc i) h = inr (index_stands n ms i h)

has_stands : (n : ℕ) (ns : List ℕ) → has n ns ≡ true → Stands n ns
has_stands n ns h =
    let r = some_at (λ m. eqb m n) ns h in
    index_stands n ns r.0 (r.2 ∙ ap Some (eqb-true r.1 n r.3))

absent : (n : ℕ) (ns : List ℕ) → has n ns ≡ false → Stands n ns → ⊥
absent n ns f s = both_ways (has n ns) f (stands_has n ns s)

distinct_index : (ns : List ℕ) → Distinct ns → (i j n : ℕ) → slice_get ns i ≡ Some n → slice_get ns j ≡ Some n → i ≡ j
distinct_index [] d i j n h k = cc
distinct_index (m ∷ ms) d zero zero n h k = refl
distinct_index (m ∷ ms) d zero (suc j) n h k = let e : m ≡ n = cc in absurd (absent m ms d.0 (subst (λ (x : ℕ). Stands x ms) (sym e) (index_stands n ms j k)))
distinct_index (m ∷ ms) d (suc i) zero n h k = let e : m ≡ n = cc in absurd (absent m ms d.0 (subst (λ (x : ℕ). Stands x ms) (sym e) (index_stands n ms i h)))
distinct_index (m ∷ ms) d (suc i) (suc j) n h k = ap suc (distinct_index ms d.1 i j n h k)

index_distinct : (ns : List ℕ) → ((i j n : ℕ) → slice_get ns i ≡ Some n → slice_get ns j ≡ Some n → i ≡ j) → Distinct ns
index_distinct [] f = tt
index_distinct (m ∷ ms) f = (
  elim (cases_Bool (has m ms)) [
    | inl t ↦
        let r = stands_index m ms (has_stands m ms t) in
        let z = f 0 (suc r.0) m refl r.1 in
        absurd (omega (arith, z))
    | inr n ↦ n
  ],
  index_distinct ms (λ i j n h k. let e = f (suc i) (suc j) n h k in omega (arith, e)),
)

without_stands : (x n : ℕ) (us : List ℕ) → Stands n (without x us) → Stands n us × (n ≡ x → ⊥)
without_stands x n [] s = absurd s
without_stands x n (u ∷ us) s =
    elim (cases_Bool (eqb u x)) [
      | inl t ↦
          let k : Stands n (without x us) = rw t at s in
          let r = without_stands x n us k in
          (inr r.0, r.1)
      | inr f ↦
          let k : Stands n (u ∷ without x us) = rw f at s in
          elim k [
            | inl e ↦ (inl e, λ d. both_ways (eqb u x) f (eq-eqb u x (e ∙ d)))
            | inr l ↦ let r = without_stands x n us l in (inr r.0, r.1)
          ]
    ]

abbrev SameNumbers : List ℕ → List ℕ → Type 0
SameNumbers us o = (n : ℕ) → Stands n o ↔ Stands n us

rearranges_same : (us o : List ℕ) → Rearranges us o → SameNumbers us o
rearranges_same us o h n =
    let e = rearranged_has us o h n in
    (λ s. has_stands n us (sym e ∙ stands_has n o s), λ s. has_stands n o (e ∙ stands_has n us s))

same_rest : (x : ℕ) (us o : List ℕ) → has x o ≡ false → SameNumbers us (x ∷ o) → SameNumbers (without x us) o
same_rest x us o none same n = (
  λ s. mem_without x n us (λ e. absent x o none (subst (λ (m : ℕ). Stands m o) e s)) ((same n).0 (inr s)),
  λ s. let r = without_stands x n us s in elim ((same n).1 r.0) [ inl e ↦ absurd (r.1 (sym e)) | inr k ↦ k ],
)

same_rearranges : (us o : List ℕ) → Distinct o → SameNumbers us o → Rearranges us o
same_rearranges [] [] d same = refl
same_rearranges (u ∷ us) [] d same = absurd ((same u).1 (inl refl))
same_rearranges us (x ∷ o) d same =
    ((same x).0 (inl refl), same_rearranges (without x us) o d.1 (same_rest x us o d.0 same))

pub orders_are_by_index : OrdersAreByIndex
orders_are_by_index =
    record {
      stands = λ n ns. (stands_index n ns, λ r. index_stands n ns r.0 r.1);
      distinct = λ ns. (distinct_index ns, index_distinct ns);
      rearranges = λ us o. (λ h. (rearranged_distinct us o h, rearranges_same us o h), λ h. same_rearranges us o h.0 h.1);
      before = before_is;
      precedes = λ a b o. (precedes_comes a b o, comes_precedes a b o);
    }
