-- That the definitions agree with each of the thirteen sample books, by computing. Assumes nothing.
use Rattle.std.proofs.Common.{refl}
use Rattle.orders.specs.Orders.{among}
use Rattle.agreement.specs.Samples.{SamplesAgree}
use Rattle.agreement.proofs.Cycles.{cycle}
use Rattle.agreement.proofs.Rows.{◌&◌}

pub samples_agree_lem : SamplesAgree
unfolding among
samples_agree_lem =
    (refl, refl, refl, refl) &
    (refl, refl, refl, refl) &
    (refl, refl, refl, refl) &
    (refl, refl, refl, refl) &
    (refl, refl, refl, refl) &
    (refl, refl, (refl, cycle refl), refl) &
    (refl, refl, (refl, cycle refl), refl) &
    (refl, refl, (refl, cycle refl), refl) &
    (refl, refl, (refl, cycle refl), refl) &
    (refl, refl, refl, refl) &
    (refl, refl, refl, refl) &
    (refl, refl, refl, refl) &
    (refl, refl, refl, refl) &
    tt
