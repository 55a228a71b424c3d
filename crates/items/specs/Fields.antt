-- What a kind of item owes of its eight columns. Assumes nothing.
use Rattle.std.specs.Prelude.{◌≡◌, ℕ, Bool, true, false, ◌&&◌, List, [], ◌∷◌, length, Some, None, Option, ◌==◌}
use Rattle.lists.specs.Lists.{has}

-- eight bytes, none of them a line feed
pub record Eight (bs : List ℕ) : Type 0 where
  pub eight : length bs ≡ 8
  pub unbroken : has 10 bs ≡ false

-- something was read, and it passes
abbrev pub Reads : {K : Type 0} → (K → Bool) → Option K → Type 0
Reads test None = ⊥
Reads test (Some k) = test k ≡ true

-- the same bytes
abbrev pub equal : List ℕ → List ℕ → Bool
equal [] [] = true
equal [] (y ∷ ys) = false
equal (x ∷ xs) [] = false
equal (x ∷ xs) (y ∷ ys) = x == y && equal xs ys
