use Rattle.std.proofs.Common.{refl}
use Rattle.book.proofs.Entered.{beginning_is_told_lem, closing_is_told_lem}
use Rattle.book.proofs.laws.tickets_are_told.Goals as goal

pub returns : goal.returns
returns g c =
    record {
      beginning = beginning_is_told_lem _;
      steps = record { read = λ k. refl; write = λ k. refl };
      under = record { cue = λ t a. refl; act = λ t a. refl };
      closing = closing_is_told_lem;
    }
