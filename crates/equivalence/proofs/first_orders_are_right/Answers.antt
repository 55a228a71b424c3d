use Rattle.equivalence.proofs.FirstOrders.{first_orders}
use Rattle.equivalence.proofs.first_orders_are_right.Goals as goal

pub returns : goal.returns
returns g c = first_orders _
