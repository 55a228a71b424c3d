-- What a search answers and leaves. Assumes nothing.
use Rattle.std.specs.Prelude.{◌≡◌, ℕ, ◌≤◌, Bool, cond, List, length, take, drop, Some, None, Ok, Err, Option, Result, nat_lt}
use Rattle.graphs.specs.declared.Found.{Found}
use Rattle.graphs.specs.declared.Found.TheVariants.{Order, Cycle}
use Rattle.refusals.specs.declared.Refusal.{Refusal}
use Rattle.refusals.specs.declared.Refusal.TheVariants.{ListShort, StripShort}
use Rattle.orders.specs.Orders.{among, first_where, orders}
use Rattle.graphs.specs.Edges.{follows, IsCycle}
use Rattle.graphs.specs.Rows.{wiped}

pub record Ordered (has : ℕ → Bool) (edge : ℕ → ℕ → Bool) (list list' : List ℕ) (n : ℕ) : Type 0 where
  pub all : n ≡ length (among has)
  pub first : first_where (follows edge) (orders (among has)) ≡ Some (take n list')
  pub rest : drop n list' ≡ drop n list

pub record Cycled (has : ℕ → Bool) (edge : ℕ → ℕ → Bool) (list list' : List ℕ) (n : ℕ) : Type 0 where
  pub none : first_where (follows edge) (orders (among has)) ≡ None
  pub fits : n ≤ length list
  pub cycle : IsCycle has edge (take n list')
  pub rest : drop n list' ≡ drop n list

abbrev pub Finds : (has : ℕ → Bool) (edge : ℕ → ℕ → Bool) (list list' : List ℕ) → Found → Type 0
Finds has edge list list' (Order n) = Ordered has edge list list' n
Finds has edge list list' (Cycle n) = Cycled has edge list list' n

-- the first refusal that is met, for a list and a strip of these lengths
abbrev pub search_refusal : (has : ℕ → Bool) (cells bytes : ℕ) → Option Refusal
search_refusal has cells bytes = cond (nat_lt bytes 64) (Some StripShort) (cond (nat_lt cells (length (among has))) (Some ListShort) None)

abbrev pub refusal_in : Result Found Refusal → Option Refusal
refusal_in (Ok f) = None
refusal_in (Err e) = Some e

-- the strip after the answer
abbrev pub strip_after : Result Found Refusal → List ℕ → List ℕ
strip_after (Ok f) strip = wiped strip
strip_after (Err e) strip = strip

-- the list after the answer: an order, a cycle, or as it was
abbrev pub Lists : (has : ℕ → Bool) (edge : ℕ → ℕ → Bool) (list list' : List ℕ) → Result Found Refusal → Type 0
Lists has edge list list' (Ok f) = Finds has edge list list' f
Lists has edge list list' (Err e) = list' ≡ list
