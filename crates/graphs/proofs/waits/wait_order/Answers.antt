use Rattle.std.proofs.Common.{◌≡◌, true, sym, ◌∙◌}
use Rattle.graphs.specs.Waits.{all_winches}
use Rattle.graphs.proofs.Waiting.{found_right}
use Rattle.graphs.proofs.waits.wait_order.Goals as goal

pub returns-clause-right : goal.returns-clause-right
returns-clause-right c =
    let all : all_winches c.args.rows.now ≡ true = sym c.all_winches.ensures ∙ c.if-not-all_winches.false in
    found_right c.args.rows.now all c.args.list.now c.search.new.list c.search.result (rw c.new.ensures at c.search.ensures.lists)
