use Rattle.book.specs.Entering.{room}
use Rattle.runs.proofs.Going.{Going}
use Rattle.runs.proofs.perform.Given as goal

abbrev pub invariant-loop-k : goal.invariant-loop-k
invariant-loop-k g l =
    Going g.K.Item.alike g.K.Item.parsed (room l.initial.book) l.calls l.initial.answers l.answers l.initial.book l.book l.initial.held l.held l.k
