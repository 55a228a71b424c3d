-- Tickets in their cells. Assumes nothing.
use Rattle.std.proofs.Common.{◌≡◌, ℕ, ◌-◌, ◌<◌, ◌≤◌, Bool, true, false, cond, List, length, get_or, take, drop, set, Some, None, Option, refl, sym, ap, ◌∙◌, leb, arith}
use Rattle.std.proofs.lemmas.List.{length-set, length-take-le, drop-set-lt, set-get_or, set-set}
use Rattle.std.proofs.Math.Seq.{take-set-lt}
use Rattle.std.proofs.lemmas.Bool.{and_parts, cond-true, leb-true}
use Rattle.book.specs.declared.tickets.Ticket.{Ticket}
use Rattle.runs.specs.declared.held.Held.{Held}
use Rattle.runs.specs.Holding.{set_ticket, Keeps}
use Rattle.runs.specs.Runs.{is_given, ticket_at}

-- one cell is set, of those given
pub keeps_set : (h after : Held) (i : ℕ) (t : Option Ticket) → i < after.given → h.given ≤ after.given → after.cells.now ≡ set h.cells.now i t → after.cells.ghost_name ≡ h.cells.ghost_name → Keeps h after
keeps_set h after i t below more is name =
    record {
      rest = ap (drop after.given) is ∙ drop-set-lt after.given h.cells.now i t below;
      more = more;
      size = ap length is ∙ length-set h.cells.now i t;
      lender = name;
    }

pub cell_given : (given n : ℕ) → is_given given n ≡ true → n - 1 < given
cell_given given n is =
    let both = and_parts (leb 1 n) (leb n given) is in
    omega (arith, leb-true 1 n both.0, leb-true n given both.1)

-- a cell of a ticket that was given
pub set_given : (given : ℕ) (cells : List (Option Ticket)) (n : ℕ) (t : Option Ticket) → given ≤ length cells → is_given given n ≡ true → take given (set cells (n - 1) t) ≡ set_ticket (take given cells) n t
set_given given cells n t h is =
    take-set-lt given cells (n - 1) t (cell_given given n is)
    ∙ sym (cond-true (is_given (length (take given cells)) n) (set (take given cells) (n - 1) t) (take given cells) (ap (λ (k : ℕ). is_given k n) (length-take-le given cells h) ∙ is))

-- a ticket taken and put back
pub put_back : (ts : List (Option Ticket)) (n : ℕ) (t : Ticket) → ticket_at ts n ≡ Some t → set_ticket (set_ticket ts n None) n (Some t) ≡ ts
put_back ts n t is = go (is_given (length ts) n) refl is
  where
    go : (b : Bool) → is_given (length ts) n ≡ b → cond b (get_or ts (n - 1) None) None ≡ Some t → set_ticket (cond b (set ts (n - 1) None) ts) n (Some t) ≡ ts
    go true g e =
        cond-true (is_given (length (set ts (n - 1) None)) n) (set (set ts (n - 1) None) (n - 1) (Some t)) (set ts (n - 1) None) (ap (λ (k : ℕ). is_given k n) (length-set ts (n - 1) None) ∙ g)
        ∙ set-set ts (n - 1) None (Some t)
        ∙ ap (set ts (n - 1)) (sym e)
        ∙ set-get_or ts (n - 1) None
    go false g e = cc
