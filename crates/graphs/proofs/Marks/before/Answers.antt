use Rattle.std.proofs.Common.{◌≡◌, true, false, rules, tests}
use Rattle.graphs.specs.Rows.{waits}
use Rattle.graphs.proofs.Firsts.{first_number}
use Rattle.graphs.proofs.Marks.before.Goals as goal

pub returns : goal.returns
returns g c =
    let U = waits (g.G.Graph.numbers c.args.self.now.graph.now) c.args.self.now.strip.now in
    let edge = g.G.Graph.edges c.args.self.now.graph.now in
    first_number _ _ c.find.result (λ u. (U u ≡ true) × (edge u c.args.to ≡ true)) (λ u. U u ≡ true → edge u c.args.to ≡ false) c.find.ensures.ran (λ m q k. search (rules, tests)) (λ m q k. search (rules, tests)) (λ h. h) (λ x l h t n. record { low = l; high = h; inside = t.0; runs = t.1; least = n })
