use Rattle.std.proofs.Common.{arith}
use Rattle.serial.proofs.Drawing.{Turn, turn_other, turn_none, turn_known, turn_drawn, drawing_more}
use Rattle.serial.proofs.arrows.draw_from.Goals as goal
use Rattle.serial.proofs.arrows.draw_from.Goals.{then-is_marked+then-not-is_marked+then-conflicts, else-is_marked, else-is_marked-via-then-is_marked+then-not-is_marked+else-conflicts, else-is_marked-via-then-is_marked+else-not-is_marked, else-is_marked-via-else-is_marked}

pub loop-y-preserved : goal.loop-y-preserved
loop-y-preserved g c =
    let alike = g.K.Item.alike in
    let cues = c.args.cues.now in
    let x = c.args.x.now in
    let y = c.y-item.result in
    let row = c.loop-y.row in
    let row' = c.if-is_marked.row in
    let turn : Turn alike cues x y row row' =
    elim c.if-is_marked.branch [
      | then-is_marked+then-not-is_marked+then-conflicts w ↦
          rw w.row-is (turn_drawn alike cues x y row c.loop-y.invariant.0 w.if-is_marked.ensures w.if-conflicts.ensures)
      | else-is_marked w ↦
          rw w.row-is
          (elim w.else-is_marked.branch [
            | else-is_marked-via-then-is_marked+then-not-is_marked+else-conflicts v ↦ turn_none alike cues x y row v.if-conflicts.ensures
            | else-is_marked-via-then-is_marked+else-not-is_marked v ↦ turn_known alike cues x y row v.if-not-is_marked.ensures
            | else-is_marked-via-else-is_marked v ↦ turn_other alike cues x y row v.if-is_marked.ensures
          ])
    ] in (
      omega arith,
      drawing_more alike cues x y c.args.later.now c.loop-y.y-index c.args.row.now row row' c.loop-y-test.true c.y-item.is turn c.loop-y.invariant.1,
    )
