-- An order follows every edge exactly when the edges run forward. Assumes nothing.
use Rattle.std.proofs.Common.{◌≡◌, ℕ, Bool, true, false, not, ◌||◌, eqb, List, [], ◌∷◌, sym, refl, ap, ◌∙◌, inl, inr}
use Rattle.std.proofs.lemmas.Bool.{false≢true, and_from, and_parts, both_ways, cases_Bool, cond-true, cond-false, eqb-true, ne_eqb, not-true, not_from_false, or_cases, or_left, or_right}
use Rattle.lists.specs.Lists.{has}
use Rattle.orders.specs.Orders.{precedes}
use Rattle.orders.specs.Least.{Distinct}
use Rattle.orders.proofs.Precedence.{cond_cases, has_first, has_other, precedes_has}
use Rattle.graphs.specs.Edges.{leads, follows}

module _ (edge : ℕ → ℕ → Bool) where
  leads_from : (o : List ℕ) (u x : ℕ) → has u o ≡ true → edge u x ≡ true → leads edge o x ≡ true
  leads_from [] u x h t = h
  leads_from (y ∷ o) u x h t =
      elim (or_cases (eqb y u) (has u o) h) [
        | inl e ↦ or_left (edge y x) (leads edge o x) (ap (λ (z : ℕ). edge z x) (eqb-true y u e) ∙ t)
        | inr k ↦ or_right (edge y x) (leads edge o x) (leads_from o u x k t)
      ]

  leads_one : (o : List ℕ) (x : ℕ) → leads edge o x ≡ true → (u : ℕ) × (has u o ≡ true) × (edge u x ≡ true)
  leads_one [] x h = absurd (false≢true h)
  leads_one (y ∷ o) x h =
      elim (or_cases (edge y x) (leads edge o x) h) [
        | inl t ↦ (y, has_first y o, t)
        | inr k ↦ let r = leads_one o x k in (r.0, or_right (eqb y r.0) (has r.0 o) r.1, r.2)
      ]

  -- an edge between two of the order runs from the earlier one
  abbrev pub Ahead : List ℕ → Type 0
  Ahead o = (i j : ℕ) → has i o ≡ true → has j o ≡ true → edge i j ≡ true → precedes i j o ≡ true

  pub follows_ahead : (o : List ℕ) → follows edge o ≡ true → Ahead o
  follows_ahead [] h i j hi hj t = hi
  follows_ahead (x ∷ o) h i j hi hj t =
      let p = and_parts (not (leads edge (x ∷ o) x)) (follows edge o) h in
      let none : leads edge (x ∷ o) x ≡ false = not-true (leads edge (x ∷ o) x) p.0 in
      let other : eqb x j ≡ false = ne_eqb x j (λ e. both_ways (leads edge (x ∷ o) x) none (leads_from (x ∷ o) i x hi (ap (edge i) e ∙ t))) in
      let later : has j o ≡ true = sym (ap (λ (b : Bool). b || has j o) other) ∙ hj in
      elim (cases_Bool (eqb x i)) [
        | inl e ↦ cond-true (eqb x i) (has j o) (precedes i j o) e ∙ later
        | inr e ↦
            cond-false (eqb x i) (has j o) (precedes i j o) e
            ∙ follows_ahead o p.1 i j (sym (ap (λ (b : Bool). b || has i o) e) ∙ hi) later t
      ]

  pub ahead_follows : (o : List ℕ) → Distinct o → Ahead o → follows edge o ≡ true
  ahead_follows [] d f = refl
  ahead_follows (x ∷ o) d f =
      let back : leads edge (x ∷ o) x ≡ true → ⊥ = λ t.
      let r = leads_one (x ∷ o) x t in
      let there : has x o ≡ true =
      elim (cond_cases (eqb x r.0) (has x o) (precedes r.0 x o) (f r.0 x r.1 (has_first x o) r.2)) [
        | inl k ↦ k.1
        | inr k ↦ precedes_has r.0 x o k.1
      ] in
      both_ways (has x o) d.0 there in
      let none : leads edge (x ∷ o) x ≡ false = elim (cases_Bool (leads edge (x ∷ o) x)) [ inl t ↦ absurd (back t) | inr n ↦ n ] in
      and_from (not (leads edge (x ∷ o) x)) (follows edge o)
      (not_from_false (leads edge (x ∷ o) x) none)
      (ahead_follows o d.1 (λ i j hi hj t.
      let other : eqb x i ≡ false = has_other x i o d.0 hi in
      sym (cond-false (eqb x i) (has j o) (precedes i j o) other) ∙ f i j (or_right (eqb x i) (has i o) hi) (or_right (eqb x j) (has j o) hj) t))
