-- Tests of each element and of some element together. Assumes nothing.
use Rattle.std.proofs.Common.{◌≡◌, Bool, true, false, List, [], ◌∷◌, refl, inl, inr}
use Rattle.std.proofs.lemmas.Bool.{false≢true, and_from, and_parts, or_cases, or_from, or_left, or_right}
use Rattle.lists.specs.Lists.{every, some}

module _ {X : Type 0} where
  -- one element passes both
  pub every_some : (p q : X → Bool) (xs : List X) → every p xs ≡ true → some q xs ≡ true → (x : X) × (p x ≡ true) × (q x ≡ true)
  every_some p q [] h k = absurd (false≢true k)
  every_some p q (x ∷ xs) h k =
      let e = and_parts (p x) (every p xs) h in
      elim (or_cases (q x) (some q xs) k) [ inl here ↦ (x, e.0, here) | inr later ↦ every_some p q xs e.1 later ]

  pub some_one : (q : X → Bool) (xs : List X) → some q xs ≡ true → (x : X) × (q x ≡ true)
  some_one q [] k = absurd (false≢true k)
  some_one q (x ∷ xs) k = elim (or_cases (q x) (some q xs) k) [ inl here ↦ (x, here) | inr later ↦ some_one q xs later ]

  -- an element is one of the list where what it passes, some of the list passes
  pub every_from : (p : X → Bool) (xs : List X) → ((x : X) → ((q : X → Bool) → q x ≡ true → some q xs ≡ true) → p x ≡ true) → every p xs ≡ true
  every_from p [] f = refl
  every_from p (x ∷ xs) f =
      and_from (p x) (every p xs)
      (f x (λ q t. or_left (q x) (some q xs) t))
      (every_from p xs (λ y within. f y (λ q t. or_right (q x) (some q xs) (within q t))))

  pub some_none : (q : X → Bool) (xs : List X) → ((x : X) → q x ≡ false) → some q xs ≡ false
  some_none q [] f = refl
  some_none q (x ∷ xs) f = or_from (q x) (some q xs) (f x) (some_none q xs f)
