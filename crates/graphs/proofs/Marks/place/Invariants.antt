use Rattle.std.proofs.Common.{length}
use Rattle.orders.specs.Orders.{among}
use Rattle.graphs.specs.Kept.{Keeps}
use Rattle.graphs.specs.Rows.{waits, Placing}
use Rattle.graphs.proofs.Marks.place.Given as goal

abbrev pub invariant-loop-m : goal.invariant-loop-m
invariant-loop-m g l = Keeps l.initial.self l.self × Placing (g.G.Graph.numbers l.self.graph.now) (g.G.Graph.edges l.self.graph.now) l.self.strip.now l.placed

abbrev pub decreases-loop-m : goal.decreases-loop-m
decreases-loop-m g l = length (among (waits (g.G.Graph.numbers l.self.graph.now) l.self.strip.now))
