-- What a ticket lets its holder write. Assumes nothing.
use Rattle.std.specs.Prelude.{ℕ, true, cond, not, List, Ok, Err, Result}
use Rattle.refusals.specs.declared.Refusal.{Refusal}
use Rattle.refusals.specs.declared.Refusal.TheVariants.{NoSuchCue, CueEntered}
use Rattle.history.specs.declared.Act.{Act}
use Rattle.history.specs.declared.Act.TheVariants as act
use Rattle.history.specs.declared.Ending.{Ending}
use Rattle.history.specs.declared.Entry.{Entry}
use Rattle.history.specs.Entries.{is_cue, acted}
use Rattle.book.specs.declared.tickets.Ticket.{Ticket}
use Rattle.book.specs.declared.tickets.Receipt.{Receipt}
use Rattle.book.specs.declared.tickets.Step.{Step}
use Rattle.book.specs.declared.tickets.Step.TheVariants.{Read, Write}

module _ {K : Type 0} where
  -- the ticket of a cue that begins after these entries, or the first refusal that is met
  abbrev pub begun : List (Entry K) → ℕ → Result Ticket Refusal
  begun es n = cond (not (is_cue n)) (Err NoSuchCue) (cond (acted (λ a. true) es n) (Err CueEntered) (Ok (record { cue = n })))

  -- the act that a step is
  abbrev pub stepped : Step K → Act K
  stepped (Read k) = act.Read k
  stepped (Write k) = act.Write k

  -- the entry of an act under a ticket
  abbrev pub under : Ticket → Act K → Entry K
  under t a = record { cue = t.cue; act = a }

-- the answer to an ending under a ticket, by the answer to its entry: a receipt, or the ticket given back
abbrev pub closed : Ticket → Ending → Result ℕ Refusal → Result Receipt (Ticket × Refusal)
closed t ending (Ok place) = Ok (record { place = place; ending = ending })
closed t ending (Err refusal) = Err (t, refusal)
