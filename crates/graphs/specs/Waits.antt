-- Who waits for whom, by the rows of a wait list. Assumes nothing.
use Rattle.std.specs.Prelude.{ℕ, Bool, cond, ◌&&◌, ◌||◌, List, Some, Option, ◌==◌, nat_le}
use Rattle.lists.specs.Lists.{some, every}
use Rattle.refusals.specs.declared.Refusal.{Refusal}
use Rattle.refusals.specs.declared.Refusal.TheVariants.{NoSuchWinch}
use Rattle.graphs.specs.declared.waits.Wait.{Wait}
use Rattle.graphs.specs.Answer.{search_refusal}

abbrev pub is_winch : ℕ → Bool
is_winch n = nat_le 1 n && nat_le n 64

-- the winch is either of the row's two
abbrev pub stands_in : ℕ → Wait → Bool
stands_in n row = row.winch == n || row.awaited == n

-- by the row, to waits for from
abbrev pub runs_by : ℕ → ℕ → Wait → Bool
runs_by from to row = row.awaited == from && row.winch == to

abbrev pub both_winches : Wait → Bool
both_winches row = is_winch row.winch && is_winch row.awaited

abbrev pub waits_has : List Wait → ℕ → Bool
waits_has rows n = some (stands_in n) rows

-- an edge runs from a winch to one that waits for it
abbrev pub waits_edge : List Wait → ℕ → ℕ → Bool
waits_edge rows from to = some (runs_by from to) rows

abbrev pub all_winches : List Wait → Bool
all_winches rows = every both_winches rows

-- the first refusal that is met: a row's number outside 1 to 64 comes before what the search refuses
abbrev pub wait_refusal : (rows : List Wait) (cells bytes : ℕ) → Option Refusal
wait_refusal rows cells bytes = cond (all_winches rows) (search_refusal (waits_has rows) cells bytes) (Some NoSuchWinch)
