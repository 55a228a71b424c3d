use Rattle.std.proofs.Common.{sym, arith}
use Rattle.history.specs.Marked.{marked}
use Rattle.history.proofs.Committed.{cue_low, cue_high}
use Rattle.equivalence.specs.Constraints.{sets}
use Rattle.views.proofs.Writing.{found_none, found_more, found_past, sets_cue}
use Rattle.views.proofs.members.Members.writers_of.Goals as goal
use Rattle.views.proofs.members.Members.writers_of.Goals.{then-sets, else-sets}

pub loop-w-init : goal.loop-w-init
loop-w-init g c = found_none g.K.Item.alike (marked c.args.self.now.cues) c.args.item c.args.part.now

pub overflow_sub-cues : goal.overflow_sub-cues
overflow_sub-cues g c =
    let w = c.w-item.result in
    cue_low w.cue (sets_cue g.K.Item.alike c.args.self.now.cues c.args.item w c.if-sets.ensures)

pub bounds-cues-w : goal.bounds-cues-w
bounds-cues-w g c =
    let w = c.w-item.result in
    let cue = sets_cue g.K.Item.alike c.args.self.now.cues c.args.item w c.if-sets.ensures in
    omega (arith, cue_low w.cue cue, cue_high w.cue cue)

pub loop-w-preserved : goal.loop-w-preserved
loop-w-preserved g c =
    let cues = c.args.self.now.cues in
    let k = c.args.item in
    let w = c.w-item.result in
    elim c.if-sets.branch [
      | then-sets v ↦
          rw (v.cues-is, v.last-is)
          (found_more g.K.Item.alike (marked cues) k c.args.part.now c.loop-w.w-index c.loop-w.cues c.loop-w.last c.loop-w.invariant w c.loop-w-test.true c.w-item.is
          (sets_cue g.K.Item.alike cues k w v.if-sets.ensures) (sym {b = sets g.K.Item.alike (marked cues) k w} v.if-sets.ensures))
      | else-sets v ↦
          rw (v.cues-is, v.last-is)
          (found_past g.K.Item.alike (marked cues) k c.args.part.now c.loop-w.w-index c.loop-w.cues c.loop-w.last c.loop-w.invariant w c.loop-w-test.true c.w-item.is (sym {b = sets g.K.Item.alike (marked cues) k w} v.if-sets.ensures))
    ]
