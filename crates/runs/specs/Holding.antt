-- The tickets of a run in the cells that are lent for them. Assumes nothing.
use Rattle.std.specs.Prelude.{◌≡◌, ℕ, ◌-◌, ◌≤◌, cond, List, length, take, drop, Option, slice_set}
use Rattle.book.specs.declared.tickets.Ticket.{Ticket}
use Rattle.runs.specs.declared.held.Held.{Held}
use Rattle.book.specs.declared.Book.{Book}
use Rattle.book.specs.Entering.{accepted}
use Rattle.runs.specs.Runs.{State, is_given}

-- the tickets given so far
abbrev pub tickets_of : Held → List (Option Ticket)
tickets_of h = take h.given h.cells.now

-- the tickets with that cell set, if the ticket was given
abbrev pub set_ticket : List (Option Ticket) → ℕ → Option Ticket → List (Option Ticket)
set_ticket ts n t = cond (is_given (length ts) n) (slice_set ts (n - 1) t) ts

-- what a call leaves of the tickets h: the cells after those given are as they were
pub record Keeps (h after : Held) : Type 0 where
  pub rest : drop after.given after.cells.now ≡ drop after.given h.cells.now
  pub more : h.given ≤ after.given
  pub size : length after.cells.now ≡ length h.cells.now
  pub lender : after.cells.ghost_name ≡ h.cells.ghost_name

-- what is so far, in a book and the tickets
abbrev pub so_far : {K : Type 0} → Book K → Held → State K
so_far b h = record { entries = accepted b; tickets = tickets_of h }
