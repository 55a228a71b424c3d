use Rattle.std.proofs.Common.{◌≡◌, length, sym, ap, ◌∙◌, arith}
use Rattle.std.proofs.lemmas.Bool.{eqb-false}
use Rattle.lists.specs.Lists.{every}
use Rattle.columns.proofs.Blanks.{after_blanks_le}
use Rattle.columns.proofs.Numbers.{some_where}
use Rattle.items.specs.Words.{word_from}
use Rattle.columns.specs.Symbols.{is_letter}
use Rattle.items.specs.WordsLemmas.{word_from_some}
use Rattle.items.specs.Marks.{Word, mark_in_lem}
use Rattle.items.proofs.MarkItem.read.Goals as goal

pub word_number-requires : goal.word_number-requires
word_number-requires c = omega (arith, ap length c.after_blanks-word.ensures, after_blanks_le c.args.field.now)

-- the bytes after the blanks are a word, with the number that was read
word_read : (c : goal.In_ok-number) → Word c.after_blanks-word.result.now × (word_from 0 c.after_blanks-word.result.now ≡ c.in_ok-number.number)
word_read c =
    let w = c.after_blanks-word.result.now in
    let p = some_where (every is_letter w) (word_from 0 w) c.in_ok-number.number (sym c.in_ok-number.ensures) in (
      record {
        some = omega (arith, eqb-false (length w) 0 (sym c.is_empty.ensures ∙ c.if-is_empty.false));
        fits = omega (arith, ap length c.after_blanks-word.ensures, after_blanks_le c.args.field.now);
        all = p.0;
      },
      p.1,
    )

pub overflow_sub-result : goal.overflow_sub-result
overflow_sub-result c =
    let p = word_read c in
    omega (arith, p.1, word_from_some c.after_blanks-word.result.now p.0.some p.0.all)

pub returns : goal.returns
returns c =
    let p = word_read c in
    sym (mark_in_lem c.args.field.now c.after_blanks-word.result.now c.in_ok-number.number (sym c.after_blanks-word.ensures) p.0 p.1)
