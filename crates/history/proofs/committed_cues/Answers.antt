use Rattle.std.proofs.Common.{◌+◌, sym, subst, ◌∙◌, arith}
use Rattle.history.proofs.Marks.{Marking, marking_starts, marking_ends, marking_skips_cue, marking_skips_act, marking_sets}
use Rattle.history.proofs.committed_cues.Goals as goal
use Rattle.history.proofs.committed_cues.Goals.{then-is_cue+then-is_commit, else-is_cue, else-is_cue-via-then-is_cue+else-is_commit, else-is_cue-via-else-is_cue}

pub loop-e-init : goal.loop-e-init
loop-e-init g c = marking_starts c.args.entries.now

pub loop-e-preserved : goal.loop-e-preserved
loop-e-preserved g c =
    let es = c.args.entries.now in
    let i = c.loop-e.e-index in
    let e = c.e-item.result in
    let cues = c.loop-e.cues in
    let before = c.loop-e.invariant in
    elim c.if-is_cue.branch [
      | then-is_cue+then-is_commit w ↦
          subst (Marking es (i + 1)) (sym w.cues-is)
          (marking_sets es i e cues c.loop-e-test.true c.e-item.is before (sym c.is_cue.ensures ∙ w.if-is_cue.true) (sym w.is_commit.ensures ∙ w.if-is_commit.true))
      | else-is_cue w ↦
          subst (Marking es (i + 1)) (sym w.cues-is)
          (elim w.else-is_cue.branch [
            | else-is_cue-via-then-is_cue+else-is_commit v ↦ marking_skips_act es i e cues c.loop-e-test.true c.e-item.is before (sym v.is_commit.ensures ∙ v.if-is_commit.false)
            | else-is_cue-via-else-is_cue v ↦ marking_skips_cue es i e cues c.loop-e-test.true c.e-item.is before (sym c.is_cue.ensures ∙ v.if-is_cue.false)
          ])
    ]

pub returns : goal.returns
returns g c = marking_ends c.args.entries.now c.loop-e.e-index c.loop-e.cues (omega arith) c.loop-e.invariant
