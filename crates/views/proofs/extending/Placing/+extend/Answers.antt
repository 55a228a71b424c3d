use Rattle.std.proofs.Common.{◌-◌, ◌∷◌, true, is_some, length, get_or, set, sym, refl, ap, ◌∙◌, arith}
use Rattle.history.proofs.Committed.{cue_low, cue_high}
use Rattle.views.specs.Answer.{filled}
use Rattle.views.specs.Shown.{rest_of}
use Rattle.views.proofs.Trying.{rest_tried, next_cue, left_less, past_placed, past_barred, past_tried, rest_found, found_more, filled_none, filled_more}
use Rattle.views.proofs.extending.Placing.+extend.Goals as goal
use Rattle.views.proofs.extending.Placing.+extend.Goals.{then-not-is_marked+then-may_come+else-extend, else-not-is_marked, else-not-is_marked-via-then-not-is_marked+else-may_come, else-not-is_marked-via-else-not-is_marked}

pub loop-x-init : goal.loop-x-init
loop-x-init t c =
    (refl, refl, rest_tried c.args.self.now c.numbers-x-items.result.now c.numbers-x-items.ensures (omega (arith, c.requires, c.in-Some.ensures.cases.1)))

pub overflow_sub-placed : goal.overflow_sub-placed
overflow_sub-placed t c =
    cue_low _ (next_cue c.args.self.now c.numbers-x-items.result.now c.numbers-x-items.ensures c.loop-x.x-index c.loop-x-test.true)

pub bounds-placed-x : goal.bounds-placed-x
bounds-placed-x t c =
    let x = get_or c.numbers-x-items.result.now c.loop-x.x-index 0 in
    let cue = next_cue c.args.self.now c.numbers-x-items.result.now c.numbers-x-items.ensures c.loop-x.x-index c.loop-x-test.true in
    omega (arith, cue_low x cue, cue_high x cue)

pub extend-requires : goal.extend-requires
extend-requires t c =
    let less = left_less c.args.self.now c.numbers-x-items.result.now c.numbers-x-items.ensures c.loop-x.x-index c.loop-x-test.true (omega arith) (sym c.if-not-is_marked.ensures) in
    let long = ap length c.loop-x.invariant.1 in
    (omega (arith, c.decreases, long, c.in-Some.ensures.cases.1), omega (arith, less, c.requires, long, c.in-Some.ensures.cases.1))

pub returns-then-extend-clause-found : goal.returns-then-extend-clause-found
returns-then-extend-clause-found t c =
    let x = get_or c.numbers-x-items.result.now c.loop-x.x-index 0 in
    let rest = rest_of (record { constraints = c.args.self.now.constraints; placed = set c.args.self.now.placed (x - 1) true }) in
    let whole =
    rest_found c.args.self.now c.numbers-x-items.result.now c.numbers-x-items.ensures c.loop-x.x-index c.loop-x-test.true (omega arith) (sym c.if-not-is_marked.ensures)
    (sym c.if-may_come.ensures) (sym c.if-extend.ensures.found) c.loop-x.invariant.2 in
    sym (ap is_some whole ∙ found_more x rest ∙ sym c.if-extend.ensures.found)

pub returns-then-extend-clause-list : goal.returns-then-extend-clause-list
returns-then-extend-clause-list t c =
    let x = get_or c.numbers-x-items.result.now c.loop-x.x-index 0 in
    let rest = rest_of (record { constraints = c.args.self.now.constraints; placed = set c.args.self.now.placed (x - 1) true }) in
    let whole =
    rest_found c.args.self.now c.numbers-x-items.result.now c.numbers-x-items.ensures c.loop-x.x-index c.loop-x-test.true (omega arith) (sym c.if-not-is_marked.ensures)
    (sym c.if-may_come.ensures) (sym c.if-extend.ensures.found) c.loop-x.invariant.2 in
    ap (λ zs. x ∷ zs) (c.if-extend.ensures.list ∙ ap (filled rest) c.loop-x.invariant.1)
    ∙ filled_more x rest c.in-Some.first.now c.in-Some.rest.now (sym c.if-extend.ensures.found)
    ∙ (λ i. filled (sym whole i) (sym c.in-Some.ensures.cases.0 i))

pub loop-x-preserved : goal.loop-x-preserved
loop-x-preserved t c =
    let inv = c.loop-x.invariant in
    elim c.if-not-is_marked.branch [
      | then-not-is_marked+then-may_come+else-extend w ↦
          let x = get_or c.numbers-x-items.result.now c.loop-x.x-index 0 in
          let rest = rest_of (record { constraints = c.args.self.now.constraints; placed = set c.args.self.now.placed (x - 1) true }) in (
            inv.0,
            w.rest-is ∙ w.if-extend.ensures.list ∙ filled_none rest c.loop-x.rest (sym w.if-extend.ensures.found) ∙ inv.1,
            past_tried c.args.self.now c.numbers-x-items.result.now c.numbers-x-items.ensures c.loop-x.x-index c.loop-x-test.true (omega arith) (sym w.if-not-is_marked.ensures)
                (sym w.if-may_come.ensures) (sym w.if-extend.ensures.found) inv.2,
          )
      | else-not-is_marked w ↦ (
        inv.0,
        w.rest-is ∙ inv.1,
        elim w.else-not-is_marked.branch [
          | else-not-is_marked-via-then-not-is_marked+else-may_come v ↦
              past_barred c.args.self.now c.numbers-x-items.result.now c.numbers-x-items.ensures c.loop-x.x-index c.loop-x-test.true (sym v.if-not-is_marked.ensures) (sym v.if-may_come.ensures) inv.2
          | else-not-is_marked-via-else-not-is_marked v ↦
              past_placed c.args.self.now c.numbers-x-items.result.now c.numbers-x-items.ensures c.loop-x.x-index c.loop-x-test.true (sym v.if-not-is_marked.ensures) inv.2
        ],
      )
    ]
