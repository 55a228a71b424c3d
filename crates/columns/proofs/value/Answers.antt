use Rattle.std.proofs.Common.{ℕ, ◌+◌, ◌-◌, ◌*◌, ◌<◌, get_or, drop, sym, ap, ◌∙◌, arith}
use Rattle.columns.specs.Columns.{digits_from, up_to}
use Rattle.columns.proofs.Numbers.{digit_more, digit_stop, digit_end, digits_over, up_to_within}
use Rattle.columns.proofs.value.Goals as goal

pub returns-then-not-is_ascii_digit : goal.returns-then-not-is_ascii_digit
returns-then-not-is_ascii_digit c =
    let ds = c.args.digits.now in
    sym (ap (up_to c.args.most) (digit_stop c.loop-b.n ds c.loop-b.b-index c.loop-b-test.true (sym c.if-not-is_ascii_digit.ensures.value))) ∙ c.loop-b.invariant.0

pub returns-then-n-from : goal.returns-then-n-from
returns-then-n-from c =
    let ds = c.args.digits.now in
    let i = c.loop-b.b-index in
    let over : c.args.most < c.loop-b.n * 10 + (get_or ds i 0 - 48) = omega (arith, c.from.ensures, c.from-in-loop-b.ensures) in
    sym (ap (up_to c.args.most) (digit_more c.loop-b.n ds i c.loop-b-test.true (sym c.if-not-is_ascii_digit.ensures.value)) ∙ digits_over _ _ (drop (i + 1) ds) over)
    ∙ c.loop-b.invariant.0

pub loop-b-preserved : goal.loop-b-preserved
loop-b-preserved c =
    let ds = c.args.digits.now in
    let i = c.loop-b.b-index in (
      ap (λ (d : ℕ). up_to c.args.most (digits_from (c.loop-b.n * 10 + d) (drop (i + 1) ds))) c.from.ensures
          ∙ sym (ap (up_to c.args.most) (digit_more c.loop-b.n ds i c.loop-b-test.true (sym c.if-not-is_ascii_digit.ensures.value)))
          ∙ c.loop-b.invariant.0,
      omega (arith, c.from-in-loop-b.ensures),
    )

pub returns : goal.returns
returns c =
    sym (ap (up_to c.args.most) (digit_end c.loop-b.n c.args.digits.now c.loop-b.b-index c.loop-b-test.false) ∙ up_to_within _ _ c.loop-b.invariant.1)
    ∙ c.loop-b.invariant.0
