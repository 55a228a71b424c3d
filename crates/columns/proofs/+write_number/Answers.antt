use Rattle.std.proofs.Common.{ℕ, ◌%◌, ◌+◌, [], ◌∷◌, ◌++◌, List, sym, ap, ◌∙◌, arith}
use Rattle.columns.proofs.Numbers.{number_in_digit, number_in_more}
use Rattle.columns.proofs.+write_number.Goals as goal

pub returns-then-n-lt10 : goal.returns-then-n-lt10
returns-then-n-lt10 t c =
    ap (λ (xs : List ℕ). xs ++ (48 + c.args.n % 10) ∷ []) (c.fill.ensures.after (λ y k. k))
    ∙ sym (number_in_digit _ _ c.args.n c.in-Some.ensures.cases.1 c.if-n-lt10.true)

pub returns-else-n-lt10 : goal.returns-else-n-lt10
returns-else-n-lt10 t c =
    ap (λ (xs : List ℕ). xs ++ (48 + c.args.n % 10) ∷ []) c.write_number.ensures
    ∙ sym (number_in_more _ _ c.args.n c.in-Some.ensures.cases.1 c.if-n-lt10.false (omega arith))
