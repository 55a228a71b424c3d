use Rattle.orders.proofs.ByIndex.{orders_are_by_index}
use Rattle.orders.proofs.Dictionary.{one_comes_before}
use Rattle.orders.proofs.Listed.{among_is}
use Rattle.orders.proofs.OneLeast.{first_is_the_least, none_is_found}
use Rattle.orders.proofs.least_stands.Goals as goal

pub returns : goal.returns
returns c =
    record {
      first = first_is_the_least;
      none = none_is_found;
      among = among_is;
      index = orders_are_by_index;
      before = one_comes_before;
    }
