use Rattle.std.proofs.Common.{◌≡◌, ◌+◌, ◌/◌, ◌≤◌, length}
use Rattle.std.specs.Iterator.Adapters.{enumerate_source, enumerate_count}
use Rattle.std.specs.Slice.Iter.{chunks_rest, chunks_size}
use Rattle.book.specs.Entering.{room, accepted, Lays}
use Rattle.book.specs.Reading.{lines_of, read_from, read_in}
use Rattle.book.proofs.Book.read_in.Given as goal

abbrev pub invariant-loop-i : goal.invariant-loop-i
invariant-loop-i g l =
    let n = enumerate_count l.i-iterator in
    let rest = chunks_rest (enumerate_source l.i-iterator) in
    (read_from g.K.Item.parsed (room l.initial.self) n (accepted l.self) (lines_of rest) ≡ read_in g.K.Item.parsed (room l.initial.self) (accepted l.initial.self) l.sheet)
    × Lays l.initial.self l.self
    × (length (accepted l.initial.self) ≤ length (accepted l.self))
    × (n + (length rest + 15) / 16 ≡ (length l.sheet + 15) / 16)
    × (chunks_size (enumerate_source l.i-iterator) ≡ 16)
