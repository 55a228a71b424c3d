-- Entering, growing, beginning and ending by a ticket, each as a relation in words, of which the
-- definitions of Entering and Tickets are to be the one answer.
--
--   IsFree places es n p    == p is the next place, and cue n may have an entry there
--   IsEntered places es n r == r is right to answer, in a book of so many places, for an entry of
--                              cue n after these entries
--   HasOneMore es e es'     == es' are the entries es and then e
--   IsGrown es e r es'      == after that answer the entries are es'
--   IsTicketOf es n t       == t is a ticket of cue n, which has no entry
--   IsBegun es n r          == r is right to answer to a begin of cue n after these entries
--   IsClosed t d r c        == c is right to answer to the ending d under the ticket t, where r
--                              answers for its entry
use Rattle.std.specs.Prelude.{◌≡◌, ℕ, suc, ◌+◌, ◌<◌, ◌≤◌, List, length, Some, Ok, Err, Result}
use Rattle.std.specs.Prelude.{◌↔◌}
use Rattle.refusals.specs.declared.Refusal.{Refusal}
use Rattle.refusals.specs.declared.Refusal.TheVariants.{NoSuchCue, CueEnded, BookFull, CueEntered}
use Rattle.history.specs.declared.Act.{Act}
use Rattle.history.specs.declared.Ending.{Ending}
use Rattle.history.specs.declared.Entry.{Entry}
use Rattle.history.specs.Places.{IsCue, entry_at, item_read, item_written}
use Rattle.history.specs.Cues.{HasEntry, HasEnded}
use Rattle.book.specs.declared.tickets.Ticket.{Ticket}
use Rattle.book.specs.declared.tickets.Receipt.{Receipt}
use Rattle.book.specs.declared.tickets.Step.TheVariants.{Read, Write}
use Rattle.book.specs.Entering.{entered, grown}
use Rattle.book.specs.Tickets.{begun, stepped, under, closed}

module _ {K : Type 0} where
  -- the place is the next one, and nothing speaks against it
  pub record IsFree (places : ℕ) (es : List (Entry K)) (n p : ℕ) : Type 0 where
    pub cue : IsCue n
    pub unended : HasEnded es n → ⊥
    pub fits : length es < places
    pub next : p ≡ length es + 1

  -- the refusals in their order: each where none before it applies
  abbrev pub IsEntered : (places : ℕ) → List (Entry K) → (n : ℕ) → Result ℕ Refusal → Type 0
  IsEntered places es n (Ok p) = IsFree places es n p
  IsEntered places es n (Err NoSuchCue) = IsCue n → ⊥
  IsEntered places es n (Err CueEnded) = HasEnded es n
  IsEntered places es n (Err BookFull) =
      IsCue n × (HasEnded es n → ⊥) × (places ≤ length es)
  IsEntered places es n (Err _) = ⊥

  -- those that were there stand where they stood, and the entry stands after them
  pub record HasOneMore (es : List (Entry K)) (e : Entry K) (es' : List (Entry K)) : Type 0 where
    pub size : length es' ≡ length es + 1
    pub same : (p : ℕ) → p ≤ length es → entry_at es' p ≡ entry_at es p
    pub last : entry_at es' (suc (length es)) ≡ Some e

  abbrev pub IsGrown :
      List (Entry K) → Entry K → Result ℕ Refusal → List (Entry K) → Type 0
  IsGrown es e (Ok answer) es' = HasOneMore es e es'
  IsGrown es e (Err refusal) es' = es' ≡ es

  pub record IsTicketOf (es : List (Entry K)) (n : ℕ) (t : Ticket) : Type 0 where
    pub cue : IsCue n
    pub unentered : HasEntry es n → ⊥
    pub of : t.cue ≡ n

  abbrev pub IsBegun : List (Entry K) → ℕ → Result Ticket Refusal → Type 0
  IsBegun es n (Ok t) = IsTicketOf es n t
  IsBegun es n (Err NoSuchCue) = IsCue n → ⊥
  IsBegun es n (Err CueEntered) = HasEntry es n
  IsBegun es n (Err _) = ⊥

-- a receipt with the place of the entry, or else that same ticket given back with the refusal
abbrev pub IsClosed :
    Ticket → Ending → Result ℕ Refusal → Result Receipt (Ticket × Refusal) → Type 0
IsClosed t ending r (Ok receipt) = (r ≡ Ok receipt.place) × (receipt.ending ≡ ending)
IsClosed t ending r (Err back) = (back.0 ≡ t) × (r ≡ Err back.1)

module _ (K : Type 0) where
  -- these are right to answer, and nothing else is
  abbrev pub EnteringIsTold : Type 0
  EnteringIsTold =
      (places : ℕ) (es : List (Entry K)) (n : ℕ) (r : Result ℕ Refusal) →
      IsEntered places es n r ↔ (r ≡ entered places es n)

  abbrev pub GrowingIsTold : Type 0
  GrowingIsTold =
      (es es' : List (Entry K)) (e : Entry K) (r : Result ℕ Refusal) →
      IsGrown es e r es' ↔ (es' ≡ grown r e es)

  -- an entry that is answered with a place stands there
  abbrev pub EnteredStands : Type 0
  EnteredStands =
      (places : ℕ) (es : List (Entry K)) (e : Entry K) (p : ℕ) → entered places es e.cue ≡ Ok p →
      entry_at (grown {F = Refusal} (Ok p) e es) p ≡ Some e

  abbrev pub BeginningIsTold : Type 0
  BeginningIsTold =
      (es : List (Entry K)) (n : ℕ) (r : Result Ticket Refusal) →
      IsBegun es n r ↔ (r ≡ begun es n)

  -- a step reads the item that it says, or writes it
  pub record StepsAreActs : Type 0 where
    pub read : (k : K) → item_read (stepped (Read k)) ≡ Some k
    pub write : (k : K) → item_written (stepped (Write k)) ≡ Some k

  -- an entry under a ticket is of its cue
  pub record UnderIsTold : Type 0 where
    pub cue : (t : Ticket) (a : Act K) → (under t a).cue ≡ t.cue
    pub act : (t : Ticket) (a : Act K) → (under t a).act ≡ a

abbrev pub ClosingIsTold : Type 0
ClosingIsTold =
    (t : Ticket) (ending : Ending) (r : Result ℕ Refusal) (c : Result Receipt (Ticket × Refusal)) →
    IsClosed t ending r c ↔ (c ≡ closed t ending r)
