-- The first element that passes with those before it. Assumes nothing.
use Rattle.std.proofs.Common.{◌≡◌, ℕ, zero, suc, ◌+◌, ◌<◌, Bool, true, false, cond, ◌⊎◌, List, [], ◌∷◌, ◌++◌, take, drop, Some, None, Option, sym, refl, ap, ◌∙◌, inl, inr, append_assoc, append-nil, zero-add, arith}
use Rattle.std.proofs.lemmas.Bool.{both_ways, cases_Bool, cond-false}
use Rattle.lists.specs.Lists.{somewhere, first_from, passes}
use Rattle.lists.proofs.Passes.{nowhere_push}

never_none : (q : ℕ) → None ≡ Some q → ⊥
never_none q h = let z : ◌≡◌ {A = ℕ} 0 1 = cc in omega arith

never_some : (p : ℕ) → Some p ≡ None → ⊥
never_some p h = let z : ◌≡◌ {A = ℕ} 0 1 = cc in omega arith

none_parts : (t : Bool) (p : ℕ) (rest : Option ℕ) → cond t (Some p) rest ≡ None → (t ≡ false) × (rest ≡ None)
none_parts true p rest h = absurd (never_some p h)
none_parts false p rest h = (refl, h)

found_cases : (t : Bool) (p q : ℕ) (rest : Option ℕ) → cond t (Some p) rest ≡ Some q → ((t ≡ true) × (p ≡ q)) ⊎ ((t ≡ false) × (rest ≡ Some q))
found_cases true p q rest h = inl (refl, cc)
found_cases false p q rest h = inr (refl, h)

kept : (t : Bool) (p q : ℕ) (rest more : Option ℕ) → (rest ≡ Some q → more ≡ Some q) → cond t (Some p) rest ≡ Some q → cond t (Some p) more ≡ Some q
kept true p q rest more f h = h
kept false p q rest more f h = f h

module _ {X : Type 0} (test : List X → X → Bool) where
  -- the element with index i passes with those before it, and none before it does
  abbrev pub IsFirst : List X → List X → ℕ → Type 0
  IsFirst seen xs i = (passes test seen xs i ≡ true) × ((j : ℕ) → j < i → passes test seen xs j ≡ false)

  none_yet : (seen xs : List X) (x : X) (i : ℕ) → test seen x ≡ false → ((j : ℕ) → j < i → passes test (seen ++ x ∷ []) xs j ≡ false) → (j : ℕ) → j < suc i → passes test seen (x ∷ xs) j ≡ false
  none_yet seen xs x i h f zero l = h
  none_yet seen xs x i h f (suc j) l = f j (omega arith)

  pub first_found : (p : ℕ) (seen xs : List X) (q : ℕ) → first_from test p seen xs ≡ Some q → (i : ℕ) × (q ≡ p + i) × IsFirst seen xs i
  first_found p seen [] q h = absurd (never_none q h)
  first_found p seen (x ∷ xs) q h =
      elim (found_cases (test seen x) p q (first_from test (suc p) (seen ++ x ∷ []) xs) h) [
        | inl here ↦ (0, omega (arith, here.1), (here.0, λ j l. absurd (omega arith)))
        | inr later ↦
            let r = first_found (suc p) (seen ++ x ∷ []) xs q later.1 in
            (suc r.0, omega (arith, r.1), (r.2.0, none_yet seen xs x r.0 later.0 r.2.1))
      ]

  pub first_none : (p : ℕ) (seen xs : List X) → first_from test p seen xs ≡ None → (i : ℕ) → passes test seen xs i ≡ false
  first_none p seen [] h i = refl
  first_none p seen (x ∷ xs) h zero = (none_parts (test seen x) p (first_from test (suc p) (seen ++ x ∷ []) xs) h).0
  first_none p seen (x ∷ xs) h (suc i) =
      first_none (suc p) (seen ++ x ∷ []) xs (none_parts (test seen x) p (first_from test (suc p) (seen ++ x ∷ []) xs) h).1 i

  pub first_nowhere : (p : ℕ) (seen xs : List X) → ((i : ℕ) → passes test seen xs i ≡ false) → first_from test p seen xs ≡ None
  first_nowhere p seen [] h = refl
  first_nowhere p seen (x ∷ xs) h =
      cond-false (test seen x) (Some p) (first_from test (suc p) (seen ++ x ∷ []) xs) (h 0)
      ∙ first_nowhere (suc p) (seen ++ x ∷ []) xs (λ i. h (suc i))

  -- a search may begin after elements that do not pass
  pub first_skip : (p : ℕ) (seen xs : List X) (n : ℕ) → ((j : ℕ) → j < n → passes test seen xs j ≡ false) → first_from test (n + p) (seen ++ take n xs) (drop n xs) ≡ first_from test p seen xs
  first_skip p seen xs zero h =
      ap (λ (m : ℕ). first_from test m (seen ++ []) xs) (zero-add p) ∙ ap (λ (front : List X). first_from test p front xs) (append-nil seen)
  first_skip p seen [] (suc n) h = refl
  first_skip p seen (x ∷ xs) (suc n) h =
      let front = seen ++ x ∷ [] in
      let place : suc n + p ≡ n + suc p = omega arith in
      ap (λ (m : ℕ). first_from test m (seen ++ x ∷ take n xs) (drop n xs)) place
      ∙ ap (λ (before : List X). first_from test (n + suc p) before (drop n xs)) (sym (append_assoc seen (x ∷ []) (take n xs)))
      ∙ first_skip (suc p) front xs n (λ j l. h (suc j) (omega arith))
      ∙ sym (cond-false (test seen x) (Some p) (first_from test (suc p) front xs) (h 0 (omega arith)))

  -- what comes after the first does not change it
  pub first_more : (p : ℕ) (seen xs more : List X) (q : ℕ) → first_from test p seen xs ≡ Some q → first_from test p seen (xs ++ more) ≡ Some q
  first_more p seen [] more q h = absurd (never_none q h)
  first_more p seen (x ∷ xs) more q h =
      let front = seen ++ x ∷ [] in
      kept (test seen x) p q (first_from test (suc p) front xs) (first_from test (suc p) front (xs ++ more)) (first_more (suc p) front xs more q) h

-- where each that passes other has one before it that passes test, without one there is none
pub first_none_after : {X : Type 0} (test other : List X → X → Bool) → ((xs : List X) (x : X) → other xs x ≡ true → somewhere test [] xs ≡ true) → (p : ℕ) (seen xs : List X) → somewhere test [] seen ≡ false → first_from test p seen xs ≡ None → first_from other p seen xs ≡ None
first_none_after test other after p seen [] h k = refl
first_none_after test other after p seen (x ∷ xs) h k =
    let front = seen ++ x ∷ [] in
    let parts = none_parts (test seen x) p (first_from test (suc p) front xs) k in
    let rest = first_none_after test other after (suc p) front xs (nowhere_push test seen x h parts.0) parts.1 in
    elim (cases_Bool (other seen x)) [
      | inl passed ↦ absurd (both_ways (somewhere test [] seen) h (after seen x passed))
      | inr failed ↦ cond-false (other seen x) (Some p) (first_from other (suc p) front xs) failed ∙ rest
    ]
