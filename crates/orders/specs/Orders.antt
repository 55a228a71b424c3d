-- All orders of a list of numbers, in dictionary order. Assumes nothing.
use Rattle.std.specs.Prelude.{ℕ, zero, suc, Bool, false, cond, not, List, [], ◌∷◌, map, length, Some, None, filter, Option, ◌==◌}
use Rattle.std.specs.List.{range_with_len, flat_map}
use Rattle.lists.specs.Lists.{has}

-- the numbers from 1 to 64 that pass, in rising order
unfoldable pub among : (ℕ → Bool) → List ℕ
among has = filter has (range_with_len 1 64)

-- the first that passes
abbrev pub first_where : {X : Type 0} → (X → Bool) → List X → Option X
first_where p [] = None
first_where p (x ∷ xs) = cond (p x) (Some x) (first_where p xs)

-- all but x
abbrev pub without : ℕ → List ℕ → List ℕ
without x us = filter (λ y. not (y == x)) us

-- every order of the n numbers us, in dictionary order where us rises
abbrev pub orders_of : ℕ → List ℕ → List (List ℕ)
orders_of zero us = [] ∷ []
orders_of (suc n) us = flat_map (λ x. map (λ o. x ∷ o) (orders_of n (without x us))) us

abbrev pub orders : List ℕ → List (List ℕ)
orders us = orders_of (length us) us

-- a comes before b in the order
abbrev pub precedes : ℕ → ℕ → List ℕ → Bool
precedes a b [] = false
precedes a b (n ∷ ns) = cond (n == a) (has b ns) (precedes a b ns)
