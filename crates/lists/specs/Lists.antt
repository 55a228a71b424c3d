-- Tests of a list, and searches in it. Assumes nothing.
use Rattle.std.specs.Prelude.{ℕ, zero, suc, Bool, true, false, cond, ◌&&◌, ◌||◌, List, [], ◌∷◌}
use Rattle.std.specs.Prelude.{◌++◌, Some, None, Option, nat_eq}
use Rattle.std.specs.List.{list_any, list_all}

module _ {X : Type 0} where
  abbrev pub every : (X → Bool) → List X → Bool
  every test xs = list_all test xs

  abbrev pub some : (X → Bool) → List X → Bool
  some test xs = list_any test xs

  abbrev pub or_else : Option X → Option X → Option X
  or_else None o = o
  or_else (Some x) o = Some x

  -- the last that passes
  abbrev pub last_where : (X → Bool) → List X → Option X
  last_where test [] = None
  last_where test (x ∷ xs) = or_else (last_where test xs) (cond (test x) (Some x) None)

  -- each element by its place, from p on
  abbrev pub placed : ℕ → List X → List (ℕ × X)
  placed p [] = []
  placed p (x ∷ xs) = (p, x) ∷ placed (suc p) xs

  -- some element passes with those before it, of which seen came earlier
  abbrev pub somewhere : (List X → X → Bool) → List X → List X → Bool
  somewhere test seen [] = false
  somewhere test seen (x ∷ xs) = test seen x || somewhere test (seen ++ x ∷ []) xs

  -- the place of the first element that passes with those before it, of which seen came earlier, from p on
  abbrev pub first_from : (List X → X → Bool) → ℕ → List X → List X → Option ℕ
  first_from test p seen [] = None
  first_from test p seen (x ∷ xs) = cond (test seen x) (Some p) (first_from test (suc p) (seen ++ x ∷ []) xs)

  -- the element with index i passes with those before it
  abbrev pub passes : (List X → X → Bool) → List X → List X → ℕ → Bool
  passes test seen [] i = false
  passes test seen (x ∷ xs) zero = test seen x
  passes test seen (x ∷ xs) (suc i) = passes test (seen ++ x ∷ []) xs i

  -- each two elements pass, the earlier one first
  abbrev pub every_pair : (X → X → Bool) → List X → Bool
  every_pair test [] = true
  every_pair test (x ∷ xs) = every (test x) xs && every_pair test xs

  -- some two elements pass, the earlier one first
  abbrev pub some_pair : (X → X → Bool) → List X → Bool
  some_pair test [] = false
  some_pair test (x ∷ xs) = some (test x) xs || some_pair test xs

-- the number stands in the list
abbrev pub has : ℕ → List ℕ → Bool
has a ns = some (λ n. nat_eq n a) ns
