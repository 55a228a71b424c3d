-- Fields with no line feed in them. Assumes nothing.
use Rattle.std.proofs.Common.{◌≡◌, ℕ, ◌-◌, ◌^◌, ◌<◌, ◌≤◌, true, false, List, length, replicate, decimal, refl, ap, ◌∙◌}
use Rattle.std.proofs.lemmas.Fmt.{length-decimal-le}
use Rattle.std.proofs.lemmas.Bool.{or_from}
use Rattle.lists.specs.Lists.{every, has}
use Rattle.lists.proofs.Has.{has_append, has_replicate, has_none}
use Rattle.columns.specs.Symbols.{is_digit, is_letter}
use Rattle.columns.specs.Columns.{justified, number_in}
use Rattle.columns.proofs.Blanks.{justified_fits}
use Rattle.columns.proofs.Numbers.{decimal_well}

pub letters_unbroken : (bs : List ℕ) → every is_letter bs ≡ true → has 10 bs ≡ false
letters_unbroken bs h = has_none is_letter 10 bs refl h

pub digits_unbroken : (bs : List ℕ) → every is_digit bs ≡ true → has 10 bs ≡ false
digits_unbroken bs h = has_none is_digit 10 bs refl h

-- nor do columns break a text
pub justified_unbroken : (w : ℕ) (bs : List ℕ) → length bs ≤ w → has 10 bs ≡ false → has 10 (justified w bs) ≡ false
justified_unbroken w bs l h =
    ap (has 10) (justified_fits w bs l)
    ∙ has_append 10 (replicate (w - length bs) 32) bs
    ∙ or_from (has 10 (replicate (w - length bs) 32)) (has 10 bs) (has_replicate 10 32 (w - length bs) refl) h

pub number_in_unbroken : (w n : ℕ) → 0 < w → n < 10 ^ w → n < 2 ^ 64 → has 10 (number_in w n) ≡ false
number_in_unbroken w n some fits h =
    justified_unbroken w (decimal n) (length-decimal-le w n some fits h) (digits_unbroken (decimal n) (decimal_well n h).digits)
