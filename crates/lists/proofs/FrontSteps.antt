-- One step of a loop that tests each element with those before it. Assumes nothing.
use Rattle.std.proofs.Common.{◌≡◌, ℕ, suc, ◌+◌, ◌<◌, ◌≤◌, Bool, true, false, cond, ◌||◌, List, [], ◌∷◌, ◌++◌, length, get_or, take, drop, Some, None, sym, ap, ◌∙◌, arith}
use Rattle.std.proofs.lemmas.List.{at_drop_more, at_drop_all, take_more}
use Rattle.std.proofs.lemmas.Bool.{or_left, cond-true, cond-false}
use Rattle.lists.specs.Lists.{somewhere, first_from}

module _ {X : Type 0} (test : List X → X → Bool) (xs : List X) (i : ℕ) where
  front_more : (x : X) → i < length xs → x ≡ get_or xs i x → take i xs ++ x ∷ [] ≡ take (i + 1) xs
  front_more x h e = ap (λ (y : X). take i xs ++ y ∷ []) e ∙ sym (take_more xs i x h)

  somewhere_step : (x : X) → i < length xs → x ≡ get_or xs i x → somewhere test (take i xs) (drop i xs) ≡ (test (take i xs) x || somewhere test (take (i + 1) xs) (drop (i + 1) xs))
  somewhere_step x h e =
      at_drop_more (somewhere test (take i xs)) xs i x h
      ∙ ap (λ (y : X). test (take i xs) y || somewhere test (take i xs ++ y ∷ []) (drop (i + 1) xs)) (sym e)
      ∙ ap (λ (front : List X). test (take i xs) x || somewhere test front (drop (i + 1) xs)) (front_more x h e)

  pub somewhere_yes : (x : X) → i < length xs → x ≡ get_or xs i x → test (take i xs) x ≡ true → somewhere test (take i xs) (drop i xs) ≡ true
  somewhere_yes x h e t = somewhere_step x h e ∙ or_left (test (take i xs) x) (somewhere test (take (i + 1) xs) (drop (i + 1) xs)) t

  pub somewhere_no : (x : X) → i < length xs → x ≡ get_or xs i x → test (take i xs) x ≡ false → somewhere test (take (i + 1) xs) (drop (i + 1) xs) ≡ somewhere test (take i xs) (drop i xs)
  somewhere_no x h e t = sym (somewhere_step x h e ∙ ap (λ (b : Bool). b || somewhere test (take (i + 1) xs) (drop (i + 1) xs)) t)

  pub somewhere_end : length xs ≤ i → somewhere test (take i xs) (drop i xs) ≡ false
  somewhere_end h = at_drop_all (somewhere test (take i xs)) xs i h

  first_step : (x : X) → i < length xs → x ≡ get_or xs i x → first_from test (i + 1) (take i xs) (drop i xs) ≡ cond (test (take i xs) x) (Some (i + 1)) (first_from test (i + 1 + 1) (take (i + 1) xs) (drop (i + 1) xs))
  first_step x h e =
      let place : suc (i + 1) ≡ i + 1 + 1 = omega arith in
      at_drop_more (first_from test (i + 1) (take i xs)) xs i x h
      ∙ ap (λ (y : X). cond (test (take i xs) y) (Some (i + 1)) (first_from test (suc (i + 1)) (take i xs ++ y ∷ []) (drop (i + 1) xs))) (sym e)
      ∙ ap (λ (front : List X). cond (test (take i xs) x) (Some (i + 1)) (first_from test (suc (i + 1)) front (drop (i + 1) xs))) (front_more x h e)
      ∙ ap (λ (p : ℕ). cond (test (take i xs) x) (Some (i + 1)) (first_from test p (take (i + 1) xs) (drop (i + 1) xs))) place

  pub first_yes : (x : X) → i < length xs → x ≡ get_or xs i x → test (take i xs) x ≡ true → first_from test (i + 1) (take i xs) (drop i xs) ≡ Some (i + 1)
  first_yes x h e t = first_step x h e ∙ cond-true (test (take i xs) x) (Some (i + 1)) (first_from test (i + 1 + 1) (take (i + 1) xs) (drop (i + 1) xs)) t

  pub first_no : (x : X) → i < length xs → x ≡ get_or xs i x → test (take i xs) x ≡ false → first_from test (i + 1 + 1) (take (i + 1) xs) (drop (i + 1) xs) ≡ first_from test (i + 1) (take i xs) (drop i xs)
  first_no x h e t = sym (first_step x h e ∙ cond-false (test (take i xs) x) (Some (i + 1)) (first_from test (i + 1 + 1) (take (i + 1) xs) (drop (i + 1) xs)) t)

  pub first_end : length xs ≤ i → first_from test (i + 1) (take i xs) (drop i xs) ≡ None
  first_end h = at_drop_all (first_from test (i + 1) (take i xs)) xs i h
