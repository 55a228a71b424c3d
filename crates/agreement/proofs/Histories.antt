-- That the definitions agree with each of the thirty-seven books, by computing. Assumes nothing.
use Rattle.std.proofs.Common.{refl}
use Rattle.orders.specs.Orders.{among}
use Rattle.agreement.specs.Histories.{HistoriesAgree}
use Rattle.agreement.proofs.Cycles.{cycle}
use Rattle.agreement.proofs.Rows.{◌&◌}

pub histories_agree_lem : HistoriesAgree
unfolding among
histories_agree_lem =
    (refl, refl, (refl, cycle refl), refl) &
    (refl, refl, (refl, cycle refl), refl) &
    (refl, refl, refl, refl) &
    (refl, refl, refl, refl) &
    (refl, refl, refl, refl) &
    (refl, refl, refl, refl) &
    (refl, refl, refl, refl) &
    (refl, refl, refl, refl) &
    (refl, refl, refl, refl) &
    (refl, refl, refl, refl) &
    (refl, refl, refl, refl) &
    (refl, refl, refl, refl) &
    (refl, refl, refl, refl) &
    (refl, refl, (refl, cycle refl), refl) &
    (refl, refl, (refl, cycle refl), refl) &
    (refl, refl, (refl, cycle refl), refl) &
    (refl, refl, (refl, cycle refl), refl) &
    (refl, refl, refl, refl) &
    (refl, refl, refl, refl) &
    (refl, refl, (refl, cycle refl), refl) &
    (refl, refl, (refl, cycle refl), refl) &
    (refl, refl, refl, refl) &
    (refl, refl, refl, refl) &
    (refl, refl, refl, refl) &
    (refl, refl, (refl, cycle refl), refl) &
    (refl, refl, (refl, cycle refl), refl) &
    (refl, refl, refl, refl) &
    (refl, refl, refl, refl) &
    (refl, refl, refl, refl) &
    (refl, refl, refl, refl) &
    (refl, refl, refl, refl) &
    (refl, refl, refl, refl) &
    (refl, refl, refl, refl) &
    (refl, refl, refl, refl) &
    (refl, refl, refl, refl) &
    (refl, refl, refl, refl) &
    (refl, refl, refl, refl) &
    tt
