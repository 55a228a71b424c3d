-- The two kinds of item: axes and marks. Every number stands for one, past the last by counting on from the first. Assumes nothing.
use Rattle.std.specs.Prelude.{ℕ, ◌+◌, ◌-◌, ◌%◌, Bool, cond, ◌&&◌, List, map, length, Some, None, Option, ◌==◌, nat_le}
use Rattle.std.specs.Option.{option_map}
use Rattle.columns.specs.Columns.{after_blanks, justified, number, up_to, number_in}
use Rattle.columns.specs.Symbols.{is_letter}
use Rattle.lists.specs.Lists.{every}
use Rattle.items.specs.declared.Axis.{Axis}
use Rattle.items.specs.declared.Mark.{Mark}
use Rattle.items.specs.Fields.{equal}
use Rattle.items.specs.Words.{folded, word_from, word}

-- the number of an axis, 0 to 65535
abbrev pub axis_number : Axis → ℕ
axis_number a = a.number % 65536

abbrev pub axis_alike : Axis → Axis → Bool
axis_alike a b = axis_number a == axis_number b

abbrev pub axis_text : Axis → List ℕ
axis_text a = number_in 8 (axis_number a)

abbrev pub axis_in : List ℕ → Option Axis
axis_in field = option_map (λ n. record { number = n }) (up_to 65535 (number field))

-- how many words have 1 to 8 letters
abbrev pub words : ℕ
words = 54507958502660

-- the letters of a mark: words are numbered from 1, marks from 0
abbrev pub letters : Mark → List ℕ
letters m = word 8 (m.number % words + 1)

-- the same letters, with case ignored
abbrev pub mark_alike : Mark → Mark → Bool
mark_alike a b = equal (map folded (letters a)) (map folded (letters b))

abbrev pub mark_text : Mark → List ℕ
mark_text m = justified 8 (letters m)

abbrev pub is_word : List ℕ → Bool
is_word bs = nat_le 1 (length bs) && (nat_le (length bs) 8 && every is_letter bs)

abbrev pub mark_in : List ℕ → Option Mark
mark_in field = cond (is_word (after_blanks field)) (Some (record { number = word_from 0 (after_blanks field) - 1 })) None
