-- The last of a list that passes. Assumes nothing.
use Rattle.std.proofs.Common.{◌≡◌, ℕ, suc, ◌+◌, ◌-◌, ◌<◌, ◌≤◌, Bool, true, false, cond, ◌⊎◌, List, [], ◌∷◌, ◌++◌, length, get_or, take, Some, None, Option, sym, refl, ap, ◌∙◌, subst, inl, inr, arith}
use Rattle.std.proofs.lemmas.List.{length-take-le, take_more, take_all}
use Rattle.std.proofs.lemmas.Bool.{or_left, or_right}
use Rattle.lists.specs.Lists.{some, or_else, last_where, placed}

module _ {X : Type 0} where
  never_some : (x : X) → None ≡ Some x → ⊥
  never_some x h = let z : ◌≡◌ {A = ℕ} 0 1 = cc in omega arith

  either_is : (a b : Option X) (x : X) → or_else a b ≡ Some x → (a ≡ Some x) ⊎ (b ≡ Some x)
  either_is None b x h = inr h
  either_is (Some y) b x h = inl h

  where_is : (t : Bool) (y x : X) → cond t (Some y) None ≡ Some x → (t ≡ true) × (y ≡ x)
  where_is true y x h = (refl, cc)
  where_is false y x h = absurd (never_some x h)

  pub last_passes : (test : X → Bool) (xs : List X) (x : X) → last_where test xs ≡ Some x → test x ≡ true
  last_passes test [] x h = absurd (never_some x h)
  last_passes test (y ∷ ys) x h =
      elim (either_is (last_where test ys) (cond (test y) (Some y) None) x h) [
        | inl later ↦ last_passes test ys x later
        | inr here ↦ let w = where_is (test y) y x here in subst (λ (z : X). test z ≡ true) w.1 w.0
      ]

  -- it is of the list: what it passes, some of the list passes
  pub last_within : (test other : X → Bool) (xs : List X) (x : X) → last_where test xs ≡ Some x → other x ≡ true → some other xs ≡ true
  last_within test other [] x h k = absurd (never_some x h)
  last_within test other (y ∷ ys) x h k =
      elim (either_is (last_where test ys) (cond (test y) (Some y) None) x h) [
        | inl later ↦ or_right (other y) (some other ys) (last_within test other ys x later k)
        | inr here ↦
            let w = where_is (test y) y x here in
            or_left (other y) (some other ys) (subst (λ (z : X). other z ≡ true) (sym w.1) k)
      ]

module _ {X : Type 0} where
  or_else_assoc : (a b c : Option X) → or_else (or_else a b) c ≡ or_else a (or_else b c)
  or_else_assoc None b c = refl
  or_else_assoc (Some x) b c = refl

  or_else_cond : (t : Bool) (x : X) (o : Option X) → or_else (cond t (Some x) None) o ≡ cond t (Some x) o
  or_else_cond true x o = refl
  or_else_cond false x o = refl

  or_else_none : (o : Option X) → or_else o None ≡ o
  or_else_none None = refl
  or_else_none (Some x) = refl

  pub last_push : (test : X → Bool) (xs : List X) (x : X) → last_where test (xs ++ x ∷ []) ≡ or_else (cond (test x) (Some x) None) (last_where test xs)
  last_push test [] x = sym (or_else_none (cond (test x) (Some x) None))
  last_push test (y ∷ xs) x =
      ap (λ (o : Option X). or_else o (cond (test y) (Some y) None)) (last_push test xs x)
      ∙ or_else_assoc (cond (test x) (Some x) None) (last_where test xs) (cond (test y) (Some y) None)

  placed_push : (p : ℕ) (xs : List X) (x : X) → placed p (xs ++ x ∷ []) ≡ placed p xs ++ (p + length xs, x) ∷ []
  placed_push p [] x = ap (λ (n : ℕ). (n, x) ∷ []) (omega arith)
  placed_push p (y ∷ xs) x =
      ap (λ (zs : List (ℕ × X)). (p, y) ∷ zs) (placed_push (suc p) xs x ∙ ap (λ (n : ℕ). placed (suc p) xs ++ (n, x) ∷ []) (omega arith))

-- the last of the first i by their places, one element back
pub last_before : {X : Type 0} (test : ℕ × X → Bool) (xs : List X) (i : ℕ) (x : X) → 0 < i → i ≤ length xs → x ≡ get_or xs (i - 1) x → last_where test (placed 1 (take i xs)) ≡ cond (test (i, x)) (Some (i, x)) (last_where test (placed 1 (take (i - 1) xs)))
last_before {X} test xs i x some within e =
    let front = take (i - 1) xs in
    let back : i - 1 + 1 ≡ i = omega arith in
    let long : 1 + length front ≡ i = ap (λ (n : ℕ). 1 + n) (length-take-le (i - 1) xs (omega arith)) ∙ omega arith in
    let cut : take i xs ≡ front ++ x ∷ [] = sym (ap (λ (n : ℕ). take n xs) back) ∙ take_more xs (i - 1) x (omega arith) ∙ ap (λ (y : X). front ++ y ∷ []) (sym e) in
    ap (λ (ys : List X). last_where test (placed 1 ys)) cut
    ∙ ap (last_where test) (placed_push 1 front x ∙ ap (λ (n : ℕ). placed 1 front ++ (n, x) ∷ []) long)
    ∙ last_push test (placed 1 front) (i, x)
    ∙ or_else_cond (test (i, x)) (i, x) (last_where test (placed 1 front))

pub last_all : {X : Type 0} (test : ℕ × X → Bool) (xs : List X) → last_where test (placed 1 (take (length xs) xs)) ≡ last_where test (placed 1 xs)
last_all {X} test xs = ap (λ (ys : List X). last_where test (placed 1 ys)) (take_all (length xs) xs (omega arith))
