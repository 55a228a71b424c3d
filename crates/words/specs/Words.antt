-- Items as single words, and rows of numbers in print. Assumes nothing.
use Rattle.std.specs.Prelude.{
  ℕ,
  ◌-◌,
  List,
  ◌∷◌,
  ◌++◌,
  length,
  replicate,
  if◌then◌else◌,
  None,
  Option,
  nat_le,
  decimal,
  flat_map,
}

-- what a kind reads where the word ends in the last of eight columns, after blanks; nothing where
-- the word is longer
abbrev pub item_in : {K : Type 0} → (List ℕ → Option K) → List ℕ → Option K
item_in parsed word =
    if nat_le (length word) 8 then parsed (replicate (8 - length word) 32 ++ word) else None

-- numbers with a blank before each
abbrev pub spaced : List ℕ → List ℕ
spaced ns = flat_map (λ n. 32 ∷ decimal n) ns
