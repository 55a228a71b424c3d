use Rattle.std.proofs.Common.{◌≡◌, ◌+◌, ◌*◌, ◌++◌, length, take}
use Rattle.std.specs.List.{flat_map}
use Rattle.columns.specs.Columns.{number_in}
use Rattle.report.proofs.pages.Page.line.Given as goal

abbrev pub invariant-loop-n : goal.invariant-loop-n
invariant-loop-n l =
    (l.self ≡ l.initial.self ++ flat_map (number_in 5) (take l.n-index l.numbers))
    × (length l.self ≡ length l.initial.self + 5 * l.n-index)
