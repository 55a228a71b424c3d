-- A test that some of a list passes. Assumes nothing.
use Rattle.std.proofs.Common.{◌≡◌, ℕ, suc, Bool, true, false, ◌||◌, List, [], ◌∷◌, ◌++◌, sym, refl, ap, ◌∙◌}
use mathlib.Core.Bool.{or_assoc}
use Rattle.std.proofs.lemmas.Bool.{or_left}
use Rattle.lists.specs.Lists.{some, placed}

or_pairs : (w x y z : Bool) → ((w || x) || (y || z)) ≡ ((w || y) || (x || z))
or_pairs true x y z = refl
or_pairs false true true z = refl
or_pairs false true false z = refl
or_pairs false false y z = refl

module _ {X : Type 0} where
  pub some_append : (test : X → Bool) (xs ys : List X) → some test (xs ++ ys) ≡ (some test xs || some test ys)
  some_append test [] ys = refl
  some_append test (x ∷ xs) ys = ap (λ (t : Bool). test x || t) (some_append test xs ys) ∙ sym (or_assoc (test x) (some test xs) (some test ys))

  pub some_front : (test : X → Bool) (xs ys : List X) → some test xs ≡ true → some test (xs ++ ys) ≡ true
  some_front test xs ys h = some_append test xs ys ∙ or_left (some test xs) (some test ys) h

  -- a test that is either of two
  pub some_either : (test one other : X → Bool) → ((x : X) → test x ≡ (one x || other x)) → (xs : List X) → some test xs ≡ (some one xs || some other xs)
  some_either test one other h [] = refl
  some_either test one other h (x ∷ xs) =
      ap (λ (t : Bool). t || some test xs) (h x)
      ∙ ap (λ (t : Bool). (one x || other x) || t) (some_either test one other h xs)
      ∙ or_pairs (one x) (other x) (some one xs) (some other xs)

  pub some_placed : (test : X → Bool) (p : ℕ) (xs : List X) → some (λ q. test q.1) (placed p xs) ≡ some test xs
  some_placed test p [] = refl
  some_placed test p (x ∷ xs) = ap (λ (t : Bool). test x || t) (some_placed test (suc p) xs)
