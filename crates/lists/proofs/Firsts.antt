-- The first element that passes. Assumes nothing.
use Rattle.std.proofs.Common.{◌≡◌, ℕ, zero, suc, ◌+◌, ◌-◌, ◌<◌, ◌≤◌, Bool, true, false, cond, ◌||◌, ltb, List, [], ◌∷◌, length, get_or, take, drop, sym, ◌∙◌, inl, inr, arith}
use Rattle.std.proofs.lemmas.List.{at_drop_more}
use Rattle.std.proofs.lemmas.Bool.{cases_lt, lt-ltb, le-ltb}
use Rattle.lists.specs.Lists.{some}

-- the index of the first that passes, or the length
module _ {X : Type 0} where
  abbrev pub first_at : (X → Bool) → List X → ℕ
  first_at test [] = 0
  first_at test (x ∷ xs) = cond (test x) 0 (suc (first_at test xs))

below_suc : (n i : ℕ) → ltb n i ≡ ltb (suc n) (suc i)
below_suc n i =
    elim (cases_lt n i) [
      | inl h ↦ lt-ltb n i h ∙ sym (lt-ltb (suc n) (suc i) (omega arith))
      | inr h ↦ le-ltb n i h ∙ sym (le-ltb (suc n) (suc i) (omega arith))
    ]

below_cond : (t : Bool) (n i : ℕ) (s : Bool) → s ≡ ltb n i → (t || s) ≡ ltb (cond t 0 (suc n)) (suc i)
below_cond true n i s e = sym (lt-ltb 0 (suc i) (omega arith))
below_cond false n i s e = e ∙ below_suc n i

module _ {X : Type 0} (test : X → Bool) where
  -- one element more in front
  pub first_at_before : (xs : List X) (i : ℕ) (x : X) → 0 < i → i ≤ length xs → x ≡ get_or xs (i - 1) x → first_at test (drop (i - 1) xs) ≡ cond (test x) 0 (suc (first_at test (drop i xs)))
  first_at_before xs i x some within e =
      let back : i - 1 + 1 ≡ i = omega arith in
      at_drop_more (first_at test) xs (i - 1) x (omega arith)
      ∙ (λ k. cond (test (sym e k)) 0 (suc (first_at test (drop (back k) xs))))

  -- some of the first i pass exactly when the first that passes is among them
  pub some_take : (xs : List X) (i : ℕ) → i ≤ length xs → some test (take i xs) ≡ ltb (first_at test xs) i
  some_take xs zero h = sym (le-ltb (first_at test xs) 0 (omega arith))
  some_take [] (suc i) h = absurd (omega arith)
  some_take (x ∷ xs) (suc i) h = below_cond (test x) (first_at test xs) i (some test (take i xs)) (some_take xs i (omega arith))
