-- Fourteen wait lists, with what is answered of each. Assumes nothing.
use Rattle.std.specs.Prelude.{◌≡◌, ℕ, List, [], ◌∷◌, Some, None, Option}
use Rattle.std.specs.List.{AllByRecursion}
use Rattle.refusals.specs.declared.Refusal.{Refusal}
use Rattle.refusals.specs.declared.Refusal.TheVariants.{NoSuchWinch}
use Rattle.orders.specs.Orders.{among, first_where, orders}
use Rattle.graphs.specs.declared.waits.Wait.{Wait}
use Rattle.graphs.specs.Edges.{follows, IsCycle}
use Rattle.graphs.specs.Waits.{waits_has, waits_edge, wait_refusal}

-- what is answered: an order, a cycle where there is none, or a refusal
pub data Reply : Type 0 where
  moves : List ℕ → Reply
  cycles : List ℕ → Reply
  refused : Refusal → Reply

pub record WaitRow : Type 0 where
  pub rows : List Wait
  pub reply : Reply

abbrev pub waiting : List Wait → Reply → WaitRow
waiting rs a = record { rows = rs; reply = a }

-- winch n waits for winch m
abbrev pub wait : ℕ → ℕ → Wait
wait n m = record { winch = n; awaited = m }

abbrev pub wait_order : List Wait → Option (List ℕ)
wait_order rows = first_where (follows (waits_edge rows)) (orders (among (waits_has rows)))

-- with a list of 64 cells and a strip of 64 bytes, of which none is too short
abbrev pub Replies : List Wait → Reply → Type 0
Replies rows (moves o) = (wait_refusal rows 64 64 ≡ None) × (wait_order rows ≡ Some o)
Replies rows (cycles c) =
    (wait_refusal rows 64 64 ≡ None) × (wait_order rows ≡ None)
    × IsCycle (waits_has rows) (waits_edge rows) c
Replies rows (refused e) = wait_refusal rows 64 64 ≡ Some e

abbrev pub WaitRowAgrees : WaitRow → Type 0
WaitRowAgrees x = Replies x.rows x.reply

abbrev pub wait_lists : List WaitRow
wait_lists =
    -- no row
    waiting [] (moves []) ∷
    -- the larger number is awaited
    waiting (wait 1 2 ∷ []) (moves (2 ∷ 1 ∷ [])) ∷
    -- a chain
    waiting (wait 3 1 ∷ wait 2 3 ∷ []) (moves (1 ∷ 3 ∷ 2 ∷ [])) ∷
    -- two wait for a third
    waiting (wait 1 3 ∷ wait 2 3 ∷ []) (moves (3 ∷ 1 ∷ 2 ∷ [])) ∷
    -- the smallest that can go first goes first
    waiting (wait 1 4 ∷ wait 3 2 ∷ []) (moves (2 ∷ 3 ∷ 4 ∷ 1 ∷ [])) ∷
    -- one row twice
    waiting (wait 2 1 ∷ wait 2 1 ∷ []) (moves (1 ∷ 2 ∷ [])) ∷
    -- winch 64
    waiting (wait 64 1 ∷ []) (moves (1 ∷ 64 ∷ [])) ∷
    -- two wait for each other
    waiting (wait 1 2 ∷ wait 2 1 ∷ []) (cycles (1 ∷ 2 ∷ [])) ∷
    -- three in a cycle: each waits for the one before it
    waiting (wait 2 1 ∷ wait 3 2 ∷ wait 1 3 ∷ []) (cycles (1 ∷ 2 ∷ 3 ∷ [])) ∷
    -- a winch that waits for itself
    waiting (wait 5 5 ∷ []) (cycles (5 ∷ [])) ∷
    -- a cycle beside winches that could move
    waiting (wait 2 1 ∷ wait 4 5 ∷ wait 5 4 ∷ []) (cycles (4 ∷ 5 ∷ [])) ∷
    -- winch 0 waits
    waiting (wait 0 1 ∷ []) (refused NoSuchWinch) ∷
    -- winch 65 is awaited
    waiting (wait 1 65 ∷ []) (refused NoSuchWinch) ∷
    -- winch 65 waits, in the second row
    waiting (wait 2 1 ∷ wait 65 1 ∷ []) (refused NoSuchWinch) ∷
    []

abbrev pub WaitsAgree : Type 0
WaitsAgree = AllByRecursion WaitRowAgrees wait_lists
