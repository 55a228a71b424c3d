-- Tickets by their numbers.
use Rattle.std.proofs.Common.{◌≡◌, ℕ, zero, suc, ◌-◌, ◌<◌, leb, List, [], ◌∷◌, ◌++◌, length, get_or, set, Some, None, Option, sym, refl, ap, ◌∙◌, inl, inr, arith}
use mathlib.Core.Logic.{◌≢◌}
use Rattle.std.proofs.lemmas.List.{length_push, length-set, get_or_past, get_or-set_same, get_or-set_other, get_or_append_left}
use Rattle.std.proofs.lemmas.Option.{get_or_from_slice_get}
use Rattle.std.proofs.Math.Seq.{get_or-append_seam}
use Rattle.std.proofs.lemmas.Bool.{and_from, and_right, cases_lt, cond-true, cond-false, le-leb, lt-leb}
use Rattle.book.specs.declared.tickets.Ticket.{Ticket}
use Rattle.runs.specs.Runs.{is_given, ticket_at}
use Rattle.runs.specs.Laws.{SetsTicket, TicketsAreNumbered}

-- the first has the number 1
ticket_get : (ts : List (Option Ticket)) (k : ℕ) → ticket_at ts (suc k) ≡ get_or ts k None
ticket_get ts k =
    elim (cases_lt k (length ts)) [
      | inl within ↦
          cond-true (is_given (length ts) (suc k)) (get_or ts (suc k - 1) None) None (and_from (leb 1 (suc k)) (leb (suc k) (length ts)) (le-leb 1 (suc k) (omega arith)) (le-leb (suc k) (length ts) (omega arith)))
          ∙ (let back : suc k - 1 ≡ k = omega arith in ap (λ (i : ℕ). get_or ts i None) back)
      | inr past ↦
          cond-false (is_given (length ts) (suc k)) (get_or ts (suc k - 1) None) None (and_right (leb 1 (suc k)) (leb (suc k) (length ts)) (lt-leb (suc k) (length ts) (omega arith)))
          ∙ sym (get_or_past ts k None past)
    ]

ticket_past : (ts : List (Option Ticket)) (k : ℕ) → length ts < k → ticket_at ts k ≡ None
ticket_past ts zero h = absurd (omega arith)
ticket_past ts (suc k) h = ticket_get ts k ∙ get_or_past ts k None (omega arith)

pub tickets_are_numbered : TicketsAreNumbered
tickets_are_numbered = record { none = λ ts. refl; past = ticket_past; given = λ ts k t h. ticket_get ts k ∙ get_or_from_slice_get ts k t None h }

-- the next ticket
pub sets_next : (ts : List (Option Ticket)) (t : Ticket) (k : ℕ) → k ≡ suc (length ts) → SetsTicket ts (ts ++ Some t ∷ []) k (Some t)
sets_next ts t k is = record { here = ap (ticket_at (ts ++ Some t ∷ [])) is ∙ ticket_get (ts ++ Some t ∷ []) (length ts) ∙ get_or-append_seam ts (Some t) [] None; others = others }
  where
    others : (m : ℕ) → m ≢ k → ticket_at (ts ++ Some t ∷ []) m ≡ ticket_at ts m
    others zero n = refl
    others (suc m) n =
        ticket_get (ts ++ Some t ∷ []) m
        ∙ elim (cases_lt m (length ts)) [
          | inl within ↦ get_or_append_left ts (Some t ∷ []) None m within
          | inr past ↦
              get_or_past (ts ++ Some t ∷ []) m None (let far : m ≢ length ts = (λ e. n (ap suc e ∙ sym is)) in omega (arith, far, length_push ts (Some t)))
              ∙ sym (get_or_past ts m None past)
        ]
        ∙ sym (ticket_get ts m)

-- a ticket that is used up
pub sets_none : (ts : List (Option Ticket)) (n : ℕ) (t : Ticket) → ticket_at ts n ≡ Some t → SetsTicket ts (set ts (n - 1) None) n None
sets_none ts zero t h = cc
sets_none ts (suc k) t h = record { here = ticket_get (set ts (suc k - 1) None) k ∙ (let back : suc k - 1 ≡ k = omega arith in ap (λ (i : ℕ). get_or (set ts i None) k None) back) ∙ gone; others = others }
  where
    gone : get_or (set ts k None) k None ≡ None
    gone =
        elim (cases_lt k (length ts)) [
          | inl within ↦ get_or-set_same ts k None None within
          | inr past ↦ get_or_past (set ts k None) k None (omega (arith, length-set ts k None))
        ]

    others : (m : ℕ) → m ≢ suc k → ticket_at (set ts (suc k - 1) None) m ≡ ticket_at ts m
    others zero n = refl
    others (suc m) n =
        ticket_get (set ts (suc k - 1) None) m
        ∙ get_or-set_other ts (suc k - 1) m None None (omega (arith, n))
        ∙ sym (ticket_get ts m)
