use Rattle.std.proofs.Common.{◌≡◌, ◌≤◌, length, sym, refl, ◌∙◌, arith}
use Rattle.graphs.specs.Rows.{mark}
use Rattle.graphs.proofs.Walks.{walking_none, walk_room, walking_more, walked_less, stuck_still, never_ready, walk_over, walked_all}
use Rattle.graphs.proofs.Marks.walk.Goals as goal

pub loop-self-init : goal.loop-self-init
loop-self-init g c =
    let s = c.args.self.now in (
      (refl, refl),
      walking_none (g.G.Graph.numbers s.graph.now) (g.G.Graph.edges s.graph.now) s.strip.now c.args.from c.requires.in_bounds.0 c.requires.in_bounds.1 c.requires.from_value c.requires.by_index,
      c.requires.stuck,
    )

pub overflow_sub-base : goal.overflow_sub-base
overflow_sub-base g c =
    let s = c.loop-self.self in
    let long : 64 ≤ length s.strip.now = omega arith in
    let new : mark s.strip.now c.loop-self.at ≡ 0 = sym c.mark.ensures ∙ c.loop-self-test.true in
    let room = walk_room (g.G.Graph.numbers s.graph.now) (g.G.Graph.edges s.graph.now) s.strip.now c.loop-self.base c.loop-self.at long c.loop-self.invariant.1 new in
    omega (arith, room.0)

pub loop-self-smaller : goal.loop-self-smaller
loop-self-smaller g c =
    let s = c.loop-self.self in
    let long : 64 ≤ length s.strip.now = omega arith in
    rw (c.put.ensures.same.0, c.put.ensures.written) (walked_less (g.G.Graph.numbers s.graph.now) (g.G.Graph.edges s.graph.now) s.strip.now c.loop-self.base c.loop-self.at long c.loop-self.invariant.1 (sym c.mark.ensures ∙ c.loop-self-test.true))

pub loop-self-preserved : goal.loop-self-preserved
loop-self-preserved g c =
    let s = c.loop-self.self in
    let has = g.G.Graph.numbers s.graph.now in
    let edge = g.G.Graph.edges s.graph.now in
    let long : 64 ≤ length s.strip.now = omega arith in
    let new : mark s.strip.now c.loop-self.at ≡ 0 = sym c.mark.ensures ∙ c.loop-self-test.true in
    let u = rw (c.put.ensures.same.0, c.put.ensures.written) at c.in-Some.ensures in (
      (c.put.ensures.same.0 ∙ c.loop-self.invariant.0.0, c.put.ensures.same.1 ∙ c.loop-self.invariant.0.1),
      rw (c.put.ensures.same.0, c.put.ensures.written) (walking_more has edge s.strip.now c.loop-self.base c.loop-self.at long c.loop-self.invariant.1 new c.in-Some.u u.low u.high u.inside u.runs),
      rw (c.put.ensures.same.0, c.put.ensures.written) (stuck_still has edge s.strip.now c.loop-self.base c.loop-self.at long c.loop-self.invariant.1 new c.loop-self.invariant.2),
    )

pub unreachable-requires : goal.unreachable-requires
unreachable-requires g c =
    let s = c.loop-self.self in
    let long : 64 ≤ length s.strip.now = omega arith in
    let ready = rw (c.put.ensures.same.0, c.put.ensures.written) at c.in-None.ensures in
    never_ready (g.G.Graph.numbers s.graph.now) (g.G.Graph.edges s.graph.now) s.strip.now c.loop-self.base c.loop-self.at long c.loop-self.invariant.1 (sym c.mark.ensures ∙ c.loop-self-test.true) c.loop-self.invariant.2 ready

pub overflow_sub-result : goal.overflow_sub-result
overflow_sub-result g c =
    let s = c.loop-self.self in
    let over = walk_over (g.G.Graph.numbers s.graph.now) (g.G.Graph.edges s.graph.now) s.strip.now c.loop-self.base c.loop-self.at c.loop-self.invariant.1 (λ e. c.loop-self-test.false (c.mark.ensures ∙ e)) in
    omega (arith, over.0)

pub returns-clause-ring : goal.returns-clause-ring
returns-clause-ring g c =
    let s = c.loop-self.self in
    rw (← c.loop-self.invariant.0.0, c.mark-2.ensures) (walked_all (g.G.Graph.numbers s.graph.now) (g.G.Graph.edges s.graph.now) s.strip.now c.loop-self.base c.loop-self.at c.loop-self.invariant.1 (λ e. c.loop-self-test.false (c.mark.ensures ∙ e)))
