use Rattle.std.proofs.Common.{◌≡◌, true, false, rules, tests}
use Rattle.graphs.specs.Rows.{waits}
use Rattle.graphs.proofs.Firsts.{first_number}
use Rattle.graphs.proofs.Marks.left.Goals as goal

pub returns : goal.returns
returns g c =
    first_number _ _ c.find.result (λ m. waits (g.G.Graph.numbers c.args.self.now.graph.now) c.args.self.now.strip.now m ≡ true) (λ m. waits (g.G.Graph.numbers c.args.self.now.graph.now) c.args.self.now.strip.now m ≡ false) c.find.ensures.ran (λ m q k. search (rules, tests)) (λ m q k. search (rules, tests)) (λ h. h) (λ x l h t n. record { low = l; high = h; inside = t; least = n })
