use Rattle.std.proofs.Common.{◌≡◌, true, rules, tests}
use Rattle.graphs.specs.Rows.{waits, Leads, Ready}
use Rattle.graphs.proofs.Firsts.{first_number}
use Rattle.graphs.proofs.Marking.{leads_from}
use Rattle.graphs.proofs.Marks.pick.Goals as goal

pub returns : goal.returns
returns g c =
    let U = waits (g.G.Graph.numbers c.args.self.now.graph.now) c.args.self.now.strip.now in
    let edge = g.G.Graph.edges c.args.self.now.graph.now in
    first_number _ _ c.find.result (λ m. (U m ≡ true) × Ready U edge m) (λ m. U m ≡ true → Leads U edge m) c.find.ensures.ran (λ m q k. search (rules, tests)) (λ m q k. search (rules, tests, leads_from)) (λ h. h) (λ x l h t n. record { low = l; high = h; inside = t.0; ready = t.1; least = n })
