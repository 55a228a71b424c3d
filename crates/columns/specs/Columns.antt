-- Fields of fixed columns: blanks, then a text that ends in the last column. Assumes nothing.
use Rattle.std.specs.Prelude.{ℕ, ◌+◌, ◌-◌, ◌*◌, Bool, false, cond, not, ◌&&◌, List, [], ◌∷◌, ◌++◌, length, drop, replicate, Some, None, decimal, Option, ◌==◌, nat_le}
use Rattle.lists.specs.Lists.{every}
use Rattle.columns.specs.Symbols.{is_digit}

-- what stands after the leading blanks
abbrev pub after_blanks : List ℕ → List ℕ
after_blanks [] = []
after_blanks (b ∷ bs) = cond (b == 32) (after_blanks bs) (b ∷ bs)

-- a text in w columns: the last w bytes of w blanks and the text
abbrev pub justified : ℕ → List ℕ → List ℕ
justified w bs = drop (length bs) (replicate w 32 ++ bs)

-- a decimal number, with no leading zero except in 0 itself
abbrev pub well_written : List ℕ → Bool
well_written [] = false
well_written (d ∷ []) = is_digit d
well_written (d ∷ e ∷ ds) = not (d == 48) && every is_digit (d ∷ e ∷ ds)

-- the number that the digits stand for, after n
abbrev pub value_from : ℕ → List ℕ → ℕ
value_from n [] = n
value_from n (d ∷ ds) = value_from (n * 10 + (d - 48)) ds

-- the same, where each byte is a digit
abbrev pub digits_from : ℕ → List ℕ → Option ℕ
digits_from n ds = cond (every is_digit ds) (Some (value_from n ds)) None

-- the number that a field holds, if it holds one
abbrev pub number : List ℕ → Option ℕ
number field = cond (well_written (after_blanks field)) (Some (value_from 0 (after_blanks field))) None

-- the number, where it is not above the most
abbrev pub up_to : ℕ → Option ℕ → Option ℕ
up_to most None = None
up_to most (Some n) = cond (nat_le n most) (Some n) None

-- a number in w columns
abbrev pub number_in : ℕ → ℕ → List ℕ
number_in w n = justified w (decimal n)
