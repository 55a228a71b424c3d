use Rattle.std.proofs.Common.{◌≤◌, length, sym, arith, rules}
use Rattle.std.proofs.lemmas.List.{take-append-drop}
use Rattle.orders.specs.Orders.{among}
use Rattle.graphs.specs.Rows.{wiped}
use Rattle.graphs.proofs.Fills.{list_refused, not_refused}
use Rattle.graphs.proofs.search.Goals as goal

pub returns-then-list-count-clause-refuses : goal.returns-then-list-count-clause-refuses
returns-then-list-count-clause-refuses g c =
    let has = g.G.Graph.numbers c.args.graph.now in
    let long : 64 ≤ length c.args.strip.now = c.in-Some.ensures.cases.enough in
    sym (list_refused has (length c.args.list.now) (length c.args.strip.now) long (omega (arith, c.count.ensures, c.if-list-count.true)))

pub returns-then-list-count-clause-strip : goal.returns-then-list-count-clause-strip
returns-then-list-count-clause-strip g c =
    rw c.in-Some.ensures.cases.same (take-append-drop 64 c.args.strip.now)

pub returns-clause-refuses : goal.returns-clause-refuses
returns-clause-refuses g c =
    let has = g.G.Graph.numbers c.args.graph.now in
    let long : 64 ≤ length c.args.strip.now = c.in-Some.ensures.cases.enough in
    let room : length (among has) ≤ length c.args.list.now = omega (arith, c.count.ensures) in
    sym (not_refused has (length c.args.list.now) (length c.args.strip.now) long room)

pub returns-clause-strip : goal.returns-clause-strip
unfolding wiped
returns-clause-strip g c = search rules
