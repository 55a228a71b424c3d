use Rattle.equivalence.specs.Laws.{Sameness}
use Rattle.serial.proofs.Answered.{Answered, answered}
use Rattle.serial.proofs.order_of.Goals as goal

pub returns : goal.returns
returns g c =
    let alike = g.K.Item.alike in
    let es = c.args.entries.now in
    let list = c.args.list.now in
    let strip = c.args.strip.now in
    let same : Sameness alike = record { reflexive = g.met.K.Item.reflexive; symmetric = g.met.K.Item.symmetric; transitive = g.met.K.Item.transitive } in
    let all : Answered alike es list c.search.new.list strip c.search.result =
    answered alike es c.conflict_graph-graph.result c.conflict_graph-graph.ensures list c.search.new.list strip c.search.auto.list c.search.result c.search.ensures.refuses c.search.ensures.lists in
    record {
      answer = all.answer;
      list = all.cells;
      strip = c.search.ensures.strip;
      right = all.right;
      view = all.view same;
    }
