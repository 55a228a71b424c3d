use Rattle.std.proofs.Common.{◌≡◌, ◌+◌, ◌-◌, ◌<◌, ◌≤◌, length, ◌∙◌, arith}
use Rattle.std.proofs.lemmas.List.{drop-set-lt}
use Rattle.graphs.specs.Rows.{mark}
use Rattle.graphs.proofs.Writes.{written_skip, written_more, written_all}
use Rattle.graphs.proofs.Marks.write.Goals as goal
use Rattle.graphs.proofs.Marks.write.Goals.{then-mark-row+then-mark-row-2, else-mark-row, else-mark-row-via-then-mark-row+else-mark-row-2, else-mark-row-via-else-mark-row}

pub loop-m-preserved : goal.loop-m-preserved
loop-m-preserved g c =
    let base = c.args.row.base in
    let size = c.args.row.size in
    let s = c.args.self.now.strip.now in
    let m = c.loop-m.m in
    let list = c.loop-m.list in
    let fits : size ≤ length list = omega (arith, c.requires) in
    let low : 1 ≤ m = omega arith in
    let high : m ≤ 64 = omega arith in
    let is : c.mark-mark.result ≡ mark s m = c.mark-mark.ensures in
    elim c.if-mark-row.branch [
      | then-mark-row+then-mark-row-2 w ↦
          let over : base < mark s m = omega (arith, w.if-mark-row.true) in
          let under : mark s m ≤ base + size = omega (arith, w.if-mark-row-2.true) in
          rw (w.list-is, is) (
            written_more base size s list m c.loop-m.invariant.0 low high fits over under,
            drop-set-lt size list (mark s m - base - 1) m (omega arith) ∙ c.loop-m.invariant.1,
          )
      | else-mark-row w ↦
          rw w.list-is (
            written_skip base size s list m c.loop-m.invariant.0
                (elim w.else-mark-row.branch [
                  | else-mark-row-via-then-mark-row+else-mark-row-2 v ↦ λ over under. omega (arith, v.if-mark-row-2.false)
                  | else-mark-row-via-else-mark-row v ↦ λ over under. omega (arith, v.if-mark-row.false)
                ]),
            c.loop-m.invariant.1,
          )
    ]

pub returns-clause-row : goal.returns-clause-row
returns-clause-row g c =
    let fits : c.args.row.size ≤ length c.loop-m.list = omega (arith, c.requires) in
    written_all c.args.row.base c.args.row.size c.args.self.now.strip.now c.loop-m.list c.loop-m.m c.loop-m.invariant.0 (omega arith) fits
