-- That the definitions agree with each of the fourteen wait lists, by computing. Assumes nothing.
use Rattle.std.proofs.Common.{refl}
use Rattle.orders.specs.Orders.{among}
use Rattle.agreement.specs.WaitLists.{WaitsAgree}
use Rattle.agreement.proofs.Cycles.{is_cycle}
use Rattle.agreement.proofs.Rows.{◌&◌}

pub waits_agree_lem : WaitsAgree
unfolding among
waits_agree_lem =
    (refl, refl) &
    (refl, refl) &
    (refl, refl) &
    (refl, refl) &
    (refl, refl) &
    (refl, refl) &
    (refl, refl) &
    (refl, refl, is_cycle refl) &
    (refl, refl, is_cycle refl) &
    (refl, refl, is_cycle refl) &
    (refl, refl, is_cycle refl) &
    refl &
    refl &
    refl &
    tt
