-- Digits and letters, by their bytes. Assumes nothing.
use Rattle.std.specs.Prelude.{ℕ, Bool, ◌&&◌, ◌||◌, nat_le}
use Rattle.columns.specs.declared.Symbol.{Symbol}
use Rattle.columns.specs.declared.Symbol.TheVariants.{Digit, Letter}

-- 0–9
abbrev pub is_digit : ℕ → Bool
is_digit b = nat_le 48 b && nat_le b 57

-- A–Z
abbrev pub is_upper : ℕ → Bool
is_upper b = nat_le 65 b && nat_le b 90

-- a–z
abbrev pub is_lower : ℕ → Bool
is_lower b = nat_le 97 b && nat_le b 122

abbrev pub is_letter : ℕ → Bool
is_letter b = is_upper b || is_lower b

abbrev pub is : Symbol → ℕ → Bool
is Digit b = is_digit b
is Letter b = is_letter b
