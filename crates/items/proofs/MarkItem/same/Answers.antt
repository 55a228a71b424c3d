use Rattle.std.proofs.Common.{sym, ap, ◌∙◌, inl, inr, arith}
use Rattle.std.proofs.lemmas.Bool.{eqb-false, eqb-true}
use Rattle.items.specs.Words.{folded}
use Rattle.items.specs.WordsLemmas.{same_word, last_agree, last_differ, none_same}
use Rattle.items.proofs.MarkItem.same.Goals as goal
use Rattle.items.proofs.MarkItem.same.Goals.{then-loop-mine-test+else-theirs-gt0, else-loop-mine-test}

pub returns-then-not-same_letter : goal.returns-then-not-same_letter
returns-then-not-same_letter c =
    sym (last_differ c.loop-mine.mine c.loop-mine.theirs c.loop-mine-test.true c.if-theirs-gt0.true c.loop-mine.invariant.1 c.loop-mine.invariant.2
    (λ e. eqb-false _ _ (sym c.if-not-same_letter.ensures) (ap folded c.letter-last.ensures ∙ e ∙ sym (ap folded c.letter-their_last.ensures))))
    ∙ c.loop-mine.invariant.0
    ∙ (λ i. same_word (c.word-mine.ensures i) (c.word-theirs.ensures i))

pub loop-mine-preserved : goal.loop-mine-preserved
loop-mine-preserved c = (
  last_agree c.loop-mine.mine c.loop-mine.theirs c.loop-mine-test.true c.if-theirs-gt0.true c.loop-mine.invariant.1 c.loop-mine.invariant.2
      (sym (ap folded c.letter-last.ensures) ∙ eqb-true _ _ (sym c.if-not-same_letter.ensures) ∙ ap folded c.letter-their_last.ensures)
      ∙ c.loop-mine.invariant.0,
  omega (arith, c.loop-mine.invariant.1),
  omega (arith, c.loop-mine.invariant.2),
)

pub returns : goal.returns
returns c =
    none_same c.loop-mine.mine c.loop-mine.theirs
    (elim c.loop-mine-test.branch [ then-loop-mine-test+else-theirs-gt0 w ↦ inr (omega (arith, w.if-theirs-gt0.false)) | else-loop-mine-test w ↦ inl (omega (arith, w.loop-mine-test.false)) ])
    ∙ c.loop-mine.invariant.0
    ∙ (λ i. same_word (c.word-mine.ensures i) (c.word-theirs.ensures i))
