use Rattle.std.proofs.Common.{◌<◌, ◌≤◌, length, refl, ◌∙◌, arith}
use Rattle.graphs.proofs.Placed.{placing_none, place_fits, placing_more, placed_less}
use Rattle.graphs.proofs.Marks.place.Goals as goal

pub loop-m-init : goal.loop-m-init
loop-m-init g c = ((refl, refl), placing_none (g.G.Graph.numbers c.args.self.now.graph.now) (g.G.Graph.edges c.args.self.now.graph.now) c.args.self.now.strip.now c.requires)

pub overflow_add-placed : goal.overflow_add-placed
overflow_add-placed g c =
    let s = c.loop-m.self in
    let fits : c.loop-m.placed < 64 = place_fits (g.G.Graph.numbers s.graph.now) (g.G.Graph.edges s.graph.now) s.strip.now c.loop-m.placed c.in-Some.m c.loop-m.invariant.1 c.in-Some.ensures in
    omega arith

pub loop-m-smaller : goal.loop-m-smaller
loop-m-smaller g c =
    let s = c.loop-m.self in
    let long : 64 ≤ length s.strip.now = omega arith in
    rw (c.put.ensures.same.0, c.put.ensures.written) (placed_less (g.G.Graph.numbers s.graph.now) (g.G.Graph.edges s.graph.now) s.strip.now c.loop-m.placed c.in-Some.m long c.loop-m.invariant.1 c.in-Some.ensures)

pub loop-m-preserved : goal.loop-m-preserved
loop-m-preserved g c =
    let s = c.loop-m.self in
    let long : 64 ≤ length s.strip.now = omega arith in (
      (c.put.ensures.same.0 ∙ c.loop-m.invariant.0.0, c.put.ensures.same.1 ∙ c.loop-m.invariant.0.1),
      rw (c.put.ensures.same.0, c.put.ensures.written) (placing_more (g.G.Graph.numbers s.graph.now) (g.G.Graph.edges s.graph.now) s.strip.now c.loop-m.placed c.in-Some.m long c.loop-m.invariant.1 c.in-Some.ensures),
    )
