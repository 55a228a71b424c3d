-- What a wait list says of its winches, in the words of its rows, and what is right to answer.
--
--   NamesWinch rows n       == n is one of the two numbers of a row
--   WaitsFor rows n m       == a row says that n waits for m
--   IsNoWinch n             == n is outside 1 to 64
--   NamesOutside rows       == a row has such a number
--   IsWinchOrder rows o     == o has the winches of the rows, each once
--   AwaitedFirst rows o     == in o each awaited winch comes before the one that waits for it
--   MovesFirst rows o       == o is the first such order, in dictionary order
--   NeverMoves rows         == there is no such order
--   WaitCycle rows c        == each of these waits for the one before it, the first for the last
--   AnswersWaits rows f l   == it is right to show what f says of the first cells of the list l
--   found_order rows        == the order that a search finds, if it finds one
--   WaitsAreTold            == what the tests find in the rows is what the rows say, and what a
--                              search finds and shows is right to answer
use Rattle.std.specs.Prelude.{◌≡◌, ℕ, ◌+◌, ◌-◌, ◌<◌, true, ◌⊎◌, List, length, take, Some, None}
use Rattle.std.specs.Prelude.{Option, ◌≢◌, ◌↔◌, slice_index}
use Rattle.refusals.specs.declared.Refusal.{Refusal}
use Rattle.refusals.specs.declared.Refusal.TheVariants.{NoSuchWinch}
use Rattle.orders.specs.Orders.{among, first_where, orders}
use Rattle.orders.specs.Least.{Stands, Distinct, Rearranges, Before, ComesBefore}
use Rattle.graphs.specs.declared.Found.{Found}
use Rattle.graphs.specs.declared.Found.TheVariants.{Order, Cycle}
use Rattle.graphs.specs.declared.waits.Wait.{Wait}
use Rattle.graphs.specs.Edges.{follows, IsCycle}
use Rattle.graphs.specs.Waits.{waits_has, waits_edge, wait_refusal}
use Rattle.graphs.specs.RefusalLaws.{IsSearchRefusal}

abbrev pub IsNoWinch : ℕ → Type 0
IsNoWinch n = (n < 1) ⊎ (64 < n)

module _ (rows : List Wait) where
  pub record NamesWinch (n : ℕ) : Type 0 where
    pub row : Wait
    pub stands : Stands row rows
    pub named : (row.winch ≡ n) ⊎ (row.awaited ≡ n)

  pub record NamesOutside : Type 0 where
    pub row : Wait
    pub stands : Stands row rows
    pub outside : IsNoWinch row.winch ⊎ IsNoWinch row.awaited

  abbrev pub WaitsFor : ℕ → ℕ → Type 0
  WaitsFor n m = Stands (record { winch = n; awaited = m }) rows

  pub record IsWinchOrder (o : List ℕ) : Type 0 where
    pub once : Distinct o
    pub winches : (n : ℕ) → Stands n o ↔ NamesWinch n

  abbrev pub AwaitedFirst : List ℕ → Type 0
  AwaitedFirst o = (n m : ℕ) → WaitsFor n m → ComesBefore m n o

  pub record MovesFirst (o : List ℕ) : Type 0 where
    pub order : IsWinchOrder o
    pub passes : AwaitedFirst o
    pub first : (q : List ℕ) → IsWinchOrder q → AwaitedFirst q → (o ≡ q) ⊎ Before o q

  abbrev pub NeverMoves : Type 0
  NeverMoves = (q : List ℕ) → IsWinchOrder q → AwaitedFirst q → ⊥

  -- some winches, no two the same
  pub record WaitCycle (c : List ℕ) : Type 0 where
    pub some : 0 < length c
    pub distinct : (i j : ℕ) → i < j → j < length c → slice_index c i ≢ slice_index c j
    pub steps : (i : ℕ) → i + 1 < length c → WaitsFor (slice_index c (i + 1)) (slice_index c i)
    pub closes : WaitsFor (slice_index c 0) (slice_index c (length c - 1))

  -- which cycle is shown is free
  abbrev pub AnswersWaits : Found → List ℕ → Type 0
  AnswersWaits (Order n) list = MovesFirst (take n list)
  AnswersWaits (Cycle n) list = WaitCycle (take n list) × NeverMoves

  abbrev pub found_order : Option (List ℕ)
  found_order = first_where (follows (waits_edge rows)) (orders (among (waits_has rows)))

pub record WaitsAreTold : Type 0 where
  -- the winches are those that rows name
  pub member : (rows : List Wait) (n : ℕ) → (waits_has rows n ≡ true) ↔ NamesWinch rows n
  -- an edge runs where a row says that the second waits for the first
  pub edge :
      (rows : List Wait) (from to : ℕ) → (waits_edge rows from to ≡ true) ↔ WaitsFor rows to from
  -- 31 is refused where a row has a number outside 1 to 64, and only there
  pub refused :
      (rows : List Wait) (cells bytes : ℕ) →
      (wait_refusal rows cells bytes ≡ Some NoSuchWinch) ↔ NamesOutside rows
  -- elsewhere 22 and 21 are met as in any search, by the number of winches
  pub otherwise :
      (rows : List Wait) (cells bytes : ℕ) (r : Option Refusal) → (NamesOutside rows → ⊥) →
      (wait_refusal rows cells bytes ≡ r)
      ↔ IsSearchRefusal (length (among (waits_has rows))) cells bytes r
  -- the orders that are searched are the orders of the winches
  pub orders :
      (rows : List Wait) (o : List ℕ) → (NamesOutside rows → ⊥) →
      Rearranges (among (waits_has rows)) o ↔ IsWinchOrder rows o
  -- such an order follows every edge where each awaited one comes first, and only there
  pub first :
      (rows : List Wait) (o : List ℕ) → (NamesOutside rows → ⊥) → IsWinchOrder rows o →
      (follows (waits_edge rows) o ≡ true) ↔ AwaitedFirst rows o
  -- a search finds an order where that is the first in which the winches can move, and only there
  pub finds_order :
      (rows : List Wait) (o : List ℕ) → (NamesOutside rows → ⊥) →
      (found_order rows ≡ Some o) ↔ MovesFirst rows o
  -- and it finds none where they can move in no order, and only there
  pub finds_none :
      (rows : List Wait) → (NamesOutside rows → ⊥) → (found_order rows ≡ None) ↔ NeverMoves rows
  -- a cycle of the graph is one of winches that wait for each other, the other way round: an edge
  -- runs from one to the next where the next waits for it
  pub cycle :
      (rows : List Wait) (c : List ℕ) → (NamesOutside rows → ⊥) →
      IsCycle (waits_has rows) (waits_edge rows) c ↔ WaitCycle rows c
  -- where such winches are, there is no order in which all can move
  pub stuck : (rows : List Wait) (c : List ℕ) → WaitCycle rows c → NeverMoves rows
  -- an order that is shown is right where it is the one that is found, and a cycle where it is one
  pub shows_order :
      (rows : List Wait) (n : ℕ) (list : List ℕ) → (NamesOutside rows → ⊥) →
      AnswersWaits rows (Order n) list ↔ (found_order rows ≡ Some (take n list))
  pub shows_cycle :
      (rows : List Wait) (n : ℕ) (list : List ℕ) → (NamesOutside rows → ⊥) →
      AnswersWaits rows (Cycle n) list ↔ IsCycle (waits_has rows) (waits_edge rows) (take n list)
