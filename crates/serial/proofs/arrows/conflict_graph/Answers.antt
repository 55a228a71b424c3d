use Rattle.std.proofs.Common.{◌≡◌, ◌+◌, ◌-◌, Bool, ◌&&◌, [], length, get_or, drop, refl, ap, ◌∙◌, subst, arith}
use Rattle.std.proofs.lemmas.List.{drop_all, length-set, take_rest}
use Rattle.history.specs.Entries.{committed}
use Rattle.history.specs.Marked.{marked}
use Rattle.history.specs.Order.{arrow}
use Rattle.serial.specs.Drawn.{Adds}
use Rattle.serial.proofs.Drawing.{Drew, drew_none, drew_more, drew_past, drew_all}
use Rattle.serial.proofs.arrows.conflict_graph.Goals as goal
use Rattle.serial.proofs.arrows.conflict_graph.Goals.{then-is_marked, else-is_marked}

pub loop-p-init : goal.loop-p-init
loop-p-init g c = (refl, drew_none g.K.Item.alike c.committed_cues-cues.result c.args.entries.now)

pub loop-p-preserved : goal.loop-p-preserved
loop-p-preserved g c =
    let alike = g.K.Item.alike in
    let cues = c.committed_cues-cues.result in
    let es = c.args.entries.now in
    let p = c.loop-p.p in
    let x = c.index-entries-p.result in
    let edges = c.loop-p.edges in
    let edges' = c.if-is_marked.edges in
    let drew : Drew alike cues es (p + 1) edges' =
    elim c.if-is_marked.branch [
      | then-is_marked w ↦
          let row = w.draw_from.new.row in
          let adds : Adds alike cues (get_or edges (x.cue - 1) []) row x (drop (p + 1) es) = subst (Adds alike cues (get_or edges (x.cue - 1) []) row x) (take_rest es (p + 1)) w.draw_from.ensures in
          rw w.edges-is (drew_more alike cues es p edges c.loop-p.invariant.1 x c.loop-p-test.true c.index-entries-p.is c.loop-p.invariant.0 w.if-is_marked.ensures row adds)
      | else-is_marked w ↦
          rw w.edges-is (drew_past alike cues es p edges c.loop-p.invariant.1 x c.loop-p-test.true c.index-entries-p.is w.if-is_marked.ensures)
    ] in
    let long : length edges' ≡ 64 =
    elim c.if-is_marked.branch [
      | then-is_marked w ↦ ap length w.edges-is ∙ length-set edges (x.cue - 1) _ ∙ c.loop-p.invariant.0
      | else-is_marked w ↦ ap length w.edges-is ∙ c.loop-p.invariant.0
    ] in
    (long, drew)

pub returns : goal.returns
returns g c =
    let alike = g.K.Item.alike in
    let cues = c.committed_cues-cues.result in
    let es = c.args.entries.now in
    record {
      numbers = c.committed_cues-cues.ensures;
      edges = λ i j.
          drew_all alike cues es c.loop-p.p c.loop-p.edges (drop_all c.loop-p.p es (omega arith)) c.loop-p.invariant.1 i j
          ∙ ap (λ (b : Bool). b && (marked cues j && arrow alike es i j)) (c.committed_cues-cues.ensures i)
          ∙ ap (λ (b : Bool). committed es i && (b && arrow alike es i j)) (c.committed_cues-cues.ensures j);
    }
