-- Letters and their values. Assumes nothing.
use Rattle.std.specs.Prelude.{◌≡◌, ℕ, ◌≤◌, true}
use Rattle.std.proofs.Common.{arith}
use Rattle.std.proofs.lemmas.Bool.Decides.{nat_tests}
use Rattle.items.specs.Words.{letter_value, letter_of}
use Rattle.columns.specs.Symbols.{is_letter}

-- a letter's value is 1 to 52
pub value_low : (b : ℕ) → is_letter b ≡ true → 1 ≤ letter_value b
value_low b h = grind (arith, nat_tests)

pub value_high : (b : ℕ) → is_letter b ≡ true → letter_value b ≤ 52
value_high b h = grind (arith, nat_tests)

-- letters and the values 1 to 52 answer to each other
pub of_value : (b : ℕ) → is_letter b ≡ true → letter_of (letter_value b) ≡ b
of_value b h = grind (arith, nat_tests)

pub letter_of_lem : (v : ℕ) → 1 ≤ v → v ≤ 52 → is_letter (letter_of v) ≡ true
letter_of_lem v l m = grind (arith, nat_tests)

pub value_of : (v : ℕ) → 1 ≤ v → v ≤ 52 → letter_value (letter_of v) ≡ v
value_of v l m = grind (arith, nat_tests)
