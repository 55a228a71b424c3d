-- Marks and their texts. Assumes nothing.
use Rattle.std.specs.Prelude.{◌≡◌, ℕ, ◌-◌, ◌≤◌, Bool, true, cond, ◌&&◌, List, length, Some, None, nat_le}
use Rattle.std.proofs.Common.{ap, ◌∙◌}
use Rattle.std.proofs.lemmas.Bool.{and_parts, and_from, leb-true, le-leb}
use Rattle.columns.specs.Columns.{after_blanks}
use Rattle.lists.specs.Lists.{every}
use Rattle.items.specs.Words.{word_from}
use Rattle.columns.specs.Symbols.{is_letter}
use Rattle.items.specs.Kinds.{is_word, mark_in}

-- 1 to 8 letters
pub record Word (w : List ℕ) : Type 0 where
  pub some : 1 ≤ length w
  pub fits : length w ≤ 8
  pub all : every is_letter w ≡ true

pub word_parts : (w : List ℕ) → is_word w ≡ true → Word w
word_parts w e =
    let p = and_parts (nat_le 1 (length w)) (nat_le (length w) 8 && every is_letter w) e in
    let q = and_parts (nat_le (length w) 8) (every is_letter w) p.1 in
    record { some = leb-true 1 (length w) p.0; fits = leb-true (length w) 8 q.0; all = q.1 }

pub word_from_lem : (w : List ℕ) → Word w → is_word w ≡ true
word_from_lem w p =
    and_from (nat_le 1 (length w)) (nat_le (length w) 8 && every is_letter w) (le-leb 1 (length w) p.some)
    (and_from (nat_le (length w) 8) (every is_letter w) (le-leb (length w) 8 p.fits) p.all)

-- the mark that a field with a word holds
pub mark_in_lem : (field w : List ℕ) (n : ℕ) → after_blanks field ≡ w → Word w → word_from 0 w ≡ n → mark_in field ≡ Some (record { number = n - 1 })
mark_in_lem field w n after is of =
    ap (λ (bs : List ℕ). cond (is_word bs) (Some (record { number = word_from 0 bs - 1 })) None) after
    ∙ ap (λ (t : Bool). cond t (Some (record { number = word_from 0 w - 1 })) None) (word_from_lem w is)
    ∙ ap (λ (m : ℕ). Some (record { number = m - 1 })) of
