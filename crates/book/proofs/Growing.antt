-- A list with one element more, by its indices. Assumes nothing.
use Rattle.std.proofs.Common.{◌≡◌, ℕ, zero, suc, ◌+◌, ◌<◌, ◌⊎◌, List, [], ◌∷◌, ◌++◌, length, Some, refl, ap, inl, inr, arith}
use Rattle.std.specs.List.{slice_get}

module _ {X : Type 0} where
  pub push_same : (xs : List X) (x : X) (i : ℕ) → i < length xs → slice_get (xs ++ x ∷ []) i ≡ slice_get xs i
  push_same [] x i h = absurd (omega arith)
  push_same (y ∷ ys) x zero h = refl
  push_same (y ∷ ys) x (suc i) h = push_same ys x i (omega arith)

  pub push_last : (xs : List X) (x : X) → slice_get (xs ++ x ∷ []) (length xs) ≡ Some x
  push_last [] x = refl
  push_last (y ∷ ys) x = push_last ys x

  pub push_cases : (xs : List X) (x : X) (i : ℕ) (y : X) → slice_get (xs ++ x ∷ []) i ≡ Some y → (slice_get xs i ≡ Some y) ⊎ ((i ≡ length xs) × (x ≡ y))
  push_cases [] x zero y h = inr (refl, cc)
  push_cases [] x (suc i) y h = cc
  push_cases (z ∷ zs) x zero y h = inl h
  push_cases (z ∷ zs) x (suc i) y h = elim (push_cases zs x i y h) [ inl k ↦ inl k | inr k ↦ inr (omega (arith, k.0), k.1) ]

  -- what is as long and has these elements is that list
  pub push_only : (xs ys : List X) (x : X) → length ys ≡ length xs + 1 → ((i : ℕ) → i < length xs → slice_get ys i ≡ slice_get xs i) → slice_get ys (length xs) ≡ Some x → ys ≡ xs ++ x ∷ []
  push_only [] [] x size same last = absurd (omega arith)
  push_only [] (y ∷ []) x size same last = let e : y ≡ x = cc in ap (λ (z : X). z ∷ []) e
  push_only [] (y ∷ z ∷ ys) x size same last = absurd (omega arith)
  push_only (z ∷ zs) [] x size same last = absurd (omega arith)
  push_only (z ∷ zs) (y ∷ ys) x size same last =
      let here = same 0 (omega arith) in
      let e : y ≡ z = cc in
      let more = push_only zs ys x (omega (arith, size)) (λ i h. same (suc i) (omega arith)) last in
      (λ i. e i ∷ more i)
