use Rattle.std.proofs.Common.{ℕ, ◌+◌, ◌*◌, get_or, drop, sym, ap, ◌∙◌, add-one, arith}
use Rattle.columns.proofs.Numbers.{some_where, none_where}
use Rattle.items.specs.Letters.{value_high}
use Rattle.items.specs.WordsLemmas.{most, most_le, letters_from, letter_more, letter_stop, letter_end}
use Rattle.items.proofs.word_number.Goals as goal

pub overflow_mul-number : goal.overflow_mul-number
overflow_mul-number c = omega (arith, c.requires, c.loop-byte.invariant.1, most_le c.loop-byte.byte-index 8 (omega (arith, c.requires)))

pub overflow_add-number : goal.overflow_add-number
overflow_add-number c = omega (arith, c.requires, c.loop-byte.invariant.1, most_le c.loop-byte.byte-index 8 (omega (arith, c.requires)))

pub returns-in_err-value : goal.returns-in_err-value
returns-in_err-value c =
    let out = none_where _ _ (sym c.in_err-value.ensures) in
    c.from_residual.ensures ∙ sym (letter_stop c.loop-byte.number c.args.word.now c.loop-byte.byte-index c.loop-byte-test.true out) ∙ c.loop-byte.invariant.0

pub loop-byte-preserved : goal.loop-byte-preserved
loop-byte-preserved c =
    let bs = c.args.word.now in
    let i = c.loop-byte.byte-index in
    let n = c.loop-byte.number in
    let p = some_where _ _ _ (sym c.in_ok-value.ensures) in (
      ap (λ (v : ℕ). letters_from (n * 52 + v) (drop (i + 1) bs)) (c.from.ensures ∙ sym p.1)
          ∙ sym (letter_more n bs i c.loop-byte-test.true p.0)
          ∙ c.loop-byte.invariant.0,
      omega (arith, c.loop-byte.invariant.1, p.1, value_high (get_or bs i 0) p.0, ap most (add-one i)),
    )

pub returns : goal.returns
returns c =
    sym (letter_end c.loop-byte.number c.args.word.now c.loop-byte.byte-index c.loop-byte-test.false) ∙ c.loop-byte.invariant.0
