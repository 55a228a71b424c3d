-- The orders that extend what is placed. Assumes nothing.
use Rattle.std.specs.Prelude.{ℕ, Bool, not, List, filter, Option}
use Rattle.orders.specs.Orders.{among, first_where, orders}
use Rattle.history.specs.Marked.{marked}
use Rattle.equivalence.specs.Extending.{fits_after}
use Rattle.views.specs.declared.extending.Placing.{Placing}
use Rattle.views.specs.Tables.{ahead_in, apart_in}

-- the members in rising order
abbrev pub all_of : Placing → List ℕ
all_of p = among (marked p.constraints.now.members.cues)

-- those that are placed, and those that are left
abbrev pub placed_of : Placing → List ℕ
placed_of p = filter (marked p.placed) (all_of p)

abbrev pub left_of : Placing → List ℕ
left_of p = filter (λ n. not (marked p.placed n)) (all_of p)

-- what the constraints say
abbrev pub ahead_by : Placing → ℕ → ℕ → Bool
ahead_by p a b = ahead_in p.constraints.now a b

abbrev pub apart_by : Placing → ℕ → ℕ → ℕ → Bool
apart_by p j r n = apart_in p.constraints.now j r n

-- the first order of those left that keeps the constraints after those placed
abbrev pub rest_of : Placing → Option (List ℕ)
rest_of p = first_where (fits_after (ahead_by p) (apart_by p) (placed_of p)) (orders (left_of p))
