use Rattle.book.proofs.Entered.{entering_is_told_lem, growing_is_told_lem, entered_stands_lem}
use Rattle.book.proofs.laws.entering_is_told.Goals as goal

pub returns : goal.returns
returns g c = record { entering = entering_is_told_lem _; growing = growing_is_told_lem _; stands = entered_stands_lem _ }
