-- Elements that pass with those before them. Assumes nothing.
use Rattle.std.proofs.Common.{◌≡◌, ℕ, zero, suc, ◌<◌, Bool, true, false, ◌||◌, List, [], ◌∷◌, ◌++◌, length, get_or, take, sym, refl, ap, ◌∙◌, inl, inr, append_assoc, append-nil, arith}
use mathlib.Core.Bool.{or_assoc}
use Rattle.std.proofs.lemmas.Bool.{false≢true, or_cases, or_left, or_right, or_from}
use Rattle.lists.specs.Lists.{somewhere, passes}

module _ {X : Type 0} where
  -- whether an element passes depends on the elements up to it alone
  pub passes_front : (test : List X → X → Bool) (seen xs more : List X) (i : ℕ) → i < length xs → passes test seen (xs ++ more) i ≡ passes test seen xs i
  passes_front test seen [] more i h = absurd (omega arith)
  passes_front test seen (x ∷ xs) more zero h = refl
  passes_front test seen (x ∷ xs) more (suc i) h = passes_front test (seen ++ x ∷ []) xs more i (omega arith)

  pub passes_within : (test : List X → X → Bool) (seen xs : List X) (i : ℕ) → passes test seen xs i ≡ true → i < length xs
  passes_within test seen [] i h = absurd (false≢true h)
  passes_within test seen (x ∷ xs) zero h = omega arith
  passes_within test seen (x ∷ xs) (suc i) h = let k = passes_within test (seen ++ x ∷ []) xs i h in omega arith

  -- the element that passes, and those before it
  pub passes_at : (test : List X → X → Bool) (seen xs : List X) (i : ℕ) (d : X) → i < length xs → passes test seen xs i ≡ test (seen ++ take i xs) (get_or xs i d)
  passes_at test seen [] i d h = absurd (omega arith)
  passes_at test seen (x ∷ xs) zero d h = ap (λ (front : List X). test front x) (sym (append-nil seen))
  passes_at test seen (x ∷ xs) (suc i) d h =
      passes_at test (seen ++ x ∷ []) xs i d (omega arith)
      ∙ ap (λ (front : List X). test front (get_or xs i d)) (append_assoc seen (x ∷ []) (take i xs))

  pub passes_weaker : (one other : List X → X → Bool) → ((seen : List X) (x : X) → one seen x ≡ true → other seen x ≡ true) → (seen xs : List X) (i : ℕ) → passes one seen xs i ≡ true → passes other seen xs i ≡ true
  passes_weaker one other h seen [] i k = absurd (false≢true k)
  passes_weaker one other h seen (x ∷ xs) zero k = h seen x k
  passes_weaker one other h seen (x ∷ xs) (suc i) k = passes_weaker one other h (seen ++ x ∷ []) xs i k

  pub somewhere_at : (test : List X → X → Bool) (seen xs : List X) → somewhere test seen xs ≡ true → (i : ℕ) × (passes test seen xs i ≡ true)
  somewhere_at test seen [] h = absurd (false≢true h)
  somewhere_at test seen (x ∷ xs) h =
      elim (or_cases (test seen x) (somewhere test (seen ++ x ∷ []) xs) h) [
        | inl here ↦ (0, here)
        | inr later ↦ let r = somewhere_at test (seen ++ x ∷ []) xs later in (suc r.0, r.1)
      ]

  pub passes_somewhere : (test : List X → X → Bool) (seen xs : List X) (i : ℕ) → passes test seen xs i ≡ true → somewhere test seen xs ≡ true
  passes_somewhere test seen [] i h = absurd (false≢true h)
  passes_somewhere test seen (x ∷ xs) zero h = or_left (test seen x) (somewhere test (seen ++ x ∷ []) xs) h
  passes_somewhere test seen (x ∷ xs) (suc i) h =
      or_right (test seen x) (somewhere test (seen ++ x ∷ []) xs) (passes_somewhere test (seen ++ x ∷ []) xs i h)

  pub somewhere_append : (test : List X → X → Bool) (seen xs ys : List X) → somewhere test seen (xs ++ ys) ≡ (somewhere test seen xs || somewhere test (seen ++ xs) ys)
  somewhere_append test seen [] ys = ap (λ (front : List X). somewhere test front ys) (sym (append-nil seen))
  somewhere_append test seen (x ∷ xs) ys =
      ap (λ (t : Bool). test seen x || t) (somewhere_append test (seen ++ x ∷ []) xs ys)
      ∙ ap (λ (front : List X). test seen x || (somewhere test (seen ++ x ∷ []) xs || somewhere test front ys)) (append_assoc seen (x ∷ []) xs)
      ∙ sym (or_assoc (test seen x) (somewhere test (seen ++ x ∷ []) xs) (somewhere test (seen ++ x ∷ xs) ys))

  -- nowhere yet, and not at one more
  pub nowhere_push : (test : List X → X → Bool) (xs : List X) (x : X) → somewhere test [] xs ≡ false → test xs x ≡ false → somewhere test [] (xs ++ x ∷ []) ≡ false
  nowhere_push test xs x h k =
      somewhere_append test [] xs (x ∷ [])
      ∙ or_from (somewhere test [] xs) (somewhere test xs (x ∷ [])) h (or_from (test xs x) false k refl)
