-- More on the front of a list. Assumes nothing.
use Rattle.std.proofs.Common.{◌≡◌, ℕ, min, List, ◌++◌, length, take, drop, sym, ap, ◌∙◌, inl, inr, arith}
use Rattle.std.proofs.lemmas.List.{drop_all, length-take, take_all, take-append-drop}
use Rattle.std.proofs.lemmas.Bool.{cases_lt}

-- past its end a list has nothing to take
pub take_min : {X : Type 0} (n : ℕ) (xs : List X) → take (min n (length xs)) xs ≡ take n xs
take_min n xs =
    elim (cases_lt n (length xs)) [
      | inl within ↦ let e : min n (length xs) ≡ n = omega arith in ap (λ (m : ℕ). take m xs) e
      | inr past ↦
          let e : min n (length xs) ≡ length xs = omega arith in
          ap (λ (m : ℕ). take m xs) e ∙ take_all (length xs) xs (omega arith) ∙ sym (take_all n xs past)
    ]

-- a front and what comes after as much
pub take_drop_length : {X : Type 0} (n : ℕ) (xs : List X) → take n xs ++ drop (length (take n xs)) xs ≡ xs
take_drop_length {X} n xs =
    ap (λ (m : ℕ). take n xs ++ drop m xs) (length-take n xs)
    ∙ ap (λ (ys : List X). ys ++ drop (min n (length xs)) xs) (sym (take_min n xs))
    ∙ take-append-drop (min n (length xs)) xs

pub drop_min : {X : Type 0} (n : ℕ) (xs : List X) → drop (min n (length xs)) xs ≡ drop n xs
drop_min n xs =
    elim (cases_lt n (length xs)) [
      | inl within ↦ let e : min n (length xs) ≡ n = omega arith in ap (λ (m : ℕ). drop m xs) e
      | inr past ↦ drop_all (min n (length xs)) xs (omega arith) ∙ sym (drop_all n xs past)
    ]
