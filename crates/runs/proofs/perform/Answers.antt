use Rattle.std.proofs.Common.{◌≡◌, ◌<◌, min, List, length, ap, arith, rules}
use Rattle.history.specs.declared.Entry.{Entry}
use Rattle.book.specs.Entering.{room}
use Rattle.runs.proofs.Going.{going_more, going_all}
use Rattle.runs.proofs.perform.Goals as goal

pub loop-k-preserved : goal.loop-k-preserved
loop-k-preserved g c =
    let more : c.loop-k.k < length c.loop-k.answers = omega (arith, c.loop-k-test.true, c.if-answers-calls.false, c.loop-k.auto.answers) in
    going_more g.K.Item.alike g.K.Item.parsed (room c.new-book.result) c.args.calls.now c.args.answers.now c.loop-k.answers c.new-book.result c.loop-k.book c.new-held.result c.loop-k.held c.loop-k.k c.loop-k.invariant
    c.index-calls-k.result c.loop-k-test.true more c.index-calls-k.is c.perform_one.new.book c.perform_one.new.tickets c.perform_one.result c.perform_one.ensures.right c.perform_one.ensures.after c.perform_one.ensures.lays c.perform_one.ensures.keeps

pub returns-clause-runs : goal.returns-clause-runs
returns-clause-runs g c =
    let all : c.loop-k.k ≡ length c.args.calls.now = omega (arith, c.loop-k-test.false, c.loop-k.auto.k-end) in
    let places : room c.new-book.result ≡ min (length c.args.memory.now) 4096 = ap (λ (ms : List (Entry g.row.K.Denot)). min (length ms) 4096) c.new-book.ensures.memory in
    going_all g.K.Item.alike g.K.Item.parsed (room c.new-book.result) c.args.calls.now c.args.answers.now c.loop-k.answers c.new-book.result c.loop-k.book c.new-held.result c.loop-k.held c.loop-k.k c.loop-k.invariant all _ places c.args.memory.now _ c.args.tickets.now _ c.new-book.ensures.memory (search rules) c.new-held.ensures.cells (search rules)
