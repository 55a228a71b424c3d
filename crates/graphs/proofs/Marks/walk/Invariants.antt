use Rattle.std.proofs.Common.{length}
use Rattle.orders.specs.Orders.{among}
use Rattle.graphs.specs.Kept.{Keeps}
use Rattle.graphs.specs.Rows.{waits, fresh, Walking, Stuck}
use Rattle.graphs.proofs.Marks.walk.Given as goal

abbrev pub invariant-loop-self : goal.invariant-loop-self
invariant-loop-self g l = Keeps l.initial.self l.self × Walking (g.G.Graph.numbers l.self.graph.now) (g.G.Graph.edges l.self.graph.now) l.self.strip.now l.base l.at × Stuck (waits (g.G.Graph.numbers l.self.graph.now) l.self.strip.now) (g.G.Graph.edges l.self.graph.now)

abbrev pub decreases-loop-self : goal.decreases-loop-self
decreases-loop-self g l = length (among (fresh (g.G.Graph.numbers l.self.graph.now) l.self.strip.now))
