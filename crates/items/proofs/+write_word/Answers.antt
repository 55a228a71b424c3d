use Rattle.std.proofs.Common.{[], ◌∷◌, ◌++◌, sym, ◌∙◌, arith}
use Rattle.items.specs.WordsLemmas.{word_letter}
use Rattle.items.proofs.+write_word.Goals as goal

pub returns-in-Some : goal.returns-in-Some
returns-in-Some t c =
    (λ i. c.write_word.ensures i ++ c.letter.ensures i ∷ [])
    ∙ sym (word_letter _ _ c.args.n c.in-Some.ensures.cases.1 (omega (arith, c.if-n-eq0.false)))
