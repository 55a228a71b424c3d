-- Tests of each two elements and of some two. Assumes nothing.
use Rattle.std.proofs.Common.{◌≡◌, Bool, true, List, [], ◌∷◌, ◌++◌, refl, inl, inr}
use Rattle.std.proofs.lemmas.Bool.{false≢true, and_from, and_parts, or_cases, or_left, or_right}
use Rattle.lists.specs.Lists.{every, some, every_pair, some_pair}
use Rattle.lists.proofs.Some.{some_front}
use Rattle.lists.proofs.Together.{every_some, some_one, every_from}

module _ {X : Type 0} where
  -- two elements pass both
  pub pair_both : (p q : X → X → Bool) (xs : List X) → every_pair p xs ≡ true → some_pair q xs ≡ true → (x : X) × (y : X) × (p x y ≡ true) × (q x y ≡ true)
  pair_both p q [] h k = absurd (false≢true k)
  pair_both p q (x ∷ xs) h k =
      let e = and_parts (every (p x) xs) (every_pair p xs) h in
      elim (or_cases (some (q x) xs) (some_pair q xs) k) [
        | inl here ↦ let r = every_some (p x) (q x) xs e.0 here in (x, r.0, r.1, r.2)
        | inr later ↦ pair_both p q xs e.1 later
      ]

  pub pair_one : (q : X → X → Bool) (xs : List X) → some_pair q xs ≡ true → (x : X) × (y : X) × (q x y ≡ true)
  pair_one q [] k = absurd (false≢true k)
  pair_one q (x ∷ xs) k =
      elim (or_cases (some (q x) xs) (some_pair q xs) k) [
        | inl here ↦ let r = some_one (q x) xs here in (x, r.0, r.1)
        | inr later ↦ pair_one q xs later
      ]

  -- two elements are of the list where what they pass, some two of the list pass
  pub pair_from_lem : (p : X → X → Bool) (xs : List X) → ((x y : X) → ((q : X → X → Bool) → q x y ≡ true → some_pair q xs ≡ true) → p x y ≡ true) → every_pair p xs ≡ true
  pair_from_lem p [] f = refl
  pair_from_lem p (x ∷ xs) f =
      and_from (every (p x) xs) (every_pair p xs)
      (every_from (p x) xs (λ y within. f x y (λ q t. or_left (some (q x) xs) (some_pair q xs) (within (q x) t))))
      (pair_from_lem p xs (λ a b within. f a b (λ q t. or_right (some (q x) xs) (some_pair q xs) (within q t))))

  pub pair_front : (q : X → X → Bool) (xs ys : List X) → some_pair q xs ≡ true → some_pair q (xs ++ ys) ≡ true
  pair_front q [] ys h = absurd (false≢true h)
  pair_front q (x ∷ xs) ys h =
      elim (or_cases (some (q x) xs) (some_pair q xs) h) [
        | inl here ↦ or_left (some (q x) (xs ++ ys)) (some_pair q (xs ++ ys)) (some_front (q x) xs ys here)
        | inr later ↦ or_right (some (q x) (xs ++ ys)) (some_pair q (xs ++ ys)) (pair_front q xs ys later)
      ]
