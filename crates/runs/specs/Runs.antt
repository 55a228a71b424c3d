-- The law of runs: what is accepted, and what the answers say. Assumes nothing.
use Rattle.std.specs.Prelude.{◌≡◌, ℕ, ◌+◌, ◌-◌, ◌<◌, ◌≤◌, Bool, cond, ◌&&◌, List, [], ◌∷◌, ◌++◌, length, take, drop, Some, None, Ok, Err, Option, Result, ◌≢◌, nat_le, nat_lt, slice_index_or, slice_set}
use Rattle.refusals.specs.declared.Refusal.{Refusal}
use Rattle.history.specs.declared.Ending.{Ending}
use Rattle.history.specs.declared.Entry.{Entry}
use Rattle.history.specs.Endings.{act_of}
use Rattle.recovery.specs.declared.Class.{Class}
use Rattle.recovery.specs.Classes.{class_number, class_of}
use Rattle.recovery.specs.ReadsFrom.{IsClass}
use Rattle.serial.specs.declared.Pair.{Pair}
use Rattle.serial.specs.Why.{why_answer, Tells}
use Rattle.book.specs.declared.sheets.ReadFault.{ReadFault}
use Rattle.book.specs.declared.tickets.Ticket.{Ticket}
use Rattle.book.specs.Entering.{entered}
use Rattle.book.specs.Reading.{read_in}
use Rattle.book.specs.ReadsIn.{ReadsIn}
use Rattle.book.specs.Tickets.{begun, stepped, under}
use Rattle.runs.specs.declared.Answer.{Answer}
use Rattle.runs.specs.declared.Answer.TheVariants as answer
use Rattle.runs.specs.declared.Call.{Call}
use Rattle.runs.specs.declared.Call.TheVariants as call
use Rattle.runs.specs.declared.cues.Cues.{Cues}
use Rattle.runs.specs.declared.Failure.{Failure}
use Rattle.runs.specs.declared.Failure.TheVariants as failure
use Rattle.runs.specs.declared.Want.{Want}
use Rattle.runs.specs.declared.Want.TheVariants as want
use Rattle.runs.specs.Answers.{IsOrderAnswer, IsViewsAnswer}

-- a ticket with that number was given
abbrev pub is_given : ℕ → ℕ → Bool
is_given given n = nat_le 1 n && nat_le n given

-- the ticket with that number, if it is held and not used up
abbrev pub ticket_at : List (Option Ticket) → ℕ → Option Ticket
ticket_at ts n = cond (is_given (length ts) n) (slice_index_or ts (n - 1) None) None

-- the answer to a call, by what a book answers
abbrev pub told : {X E : Type 0} → (X → Answer) → (E → Failure) → Result X E → Result Answer Failure
told answers fails (Ok x) = Ok (answers x)
told answers fails (Err e) = Err (fails e)

abbrev pub place_or : Result ℕ Refusal → Result Answer Failure
place_or = told answer.Place failure.Refused

abbrev pub receipt_or : Ending → Result ℕ Refusal → Result Answer Failure
receipt_or ending = told (λ place. answer.Receipt place ending) failure.Refused

abbrev pub ticket_or : ℕ → Result Ticket Refusal → Result Answer Failure
ticket_or n = told (λ ticket. answer.Ticket n) failure.Refused

abbrev pub lines_or : Result ℕ ReadFault → Result Answer Failure
lines_or = told answer.Lines failure.Fault

abbrev pub why_or : Result (Option Pair) Refusal → Result Answer Failure
why_or = told answer.Why failure.Refused

abbrev pub held : (Ticket → Result Answer Failure) → Option Ticket → Result Answer Failure
held f None = Err failure.NoTicket
held f (Some t) = f t

-- the tickets after a begin, and after an end
abbrev pub more : List (Option Ticket) → Result Ticket Refusal → List (Option Ticket)
more ts (Ok t) = ts ++ Some t ∷ []
more ts (Err f) = ts

abbrev pub used_by : List (Option Ticket) → ℕ → Result ℕ Refusal → List (Option Ticket)
used_by ts n (Ok p) = slice_set ts (n - 1) None
used_by ts n (Err f) = ts

abbrev pub used : List (Option Ticket) → ℕ → (Ticket → Result ℕ Refusal) → Option Ticket → List (Option Ticket)
used ts n f None = ts
used ts n f (Some t) = used_by ts n (f t)

-- what is so far: the entries accepted, and the tickets given, of which those used up are none
pub record State (K : Type 0) : Type 0 where
  pub entries : List (Entry K)
  pub tickets : List (Option Ticket)

module _ {K : Type 0} where
  abbrev pub start : State K
  start = record { entries = []; tickets = [] }

  -- the entry, where it is not refused
  abbrev pub one : Entry K → Result ℕ Refusal → List (Entry K)
  one e (Ok p) = e ∷ []
  one e (Err f) = []

  abbrev pub one_under : (Ticket → List (Entry K)) → Option Ticket → List (Entry K)
  one_under f None = []
  one_under f (Some t) = f t

module _ {K : Type 0} (parsed : List ℕ → Option K) (places : ℕ) (s : State K) where
  -- the entries that a call accepts: one where an enter, record or end is not refused, for a sheet those of its lines until one is
  -- refused, and none for the others
  abbrev pub accepts : Call K → List (Entry K)
  accepts (call.Enter e) = one e (entered places s.entries e.cue)
  accepts (call.ReadIn sheet) = drop (length s.entries) (read_in parsed places s.entries sheet.now).entries
  accepts (call.Record n step) = one_under (λ t. one (under t (stepped step)) (entered places s.entries t.cue)) (ticket_at s.tickets n)
  accepts (call.End n ending) = one_under (λ t. one (under t (act_of ending)) (entered places s.entries t.cue)) (ticket_at s.tickets n)
  accepts _ = []

  -- the tickets after it: a begin that is not refused gives one, and an end that is not refused uses one up
  abbrev pub gives : Call K → List (Option Ticket)
  gives (call.Begin n) = more s.tickets (begun s.entries n)
  gives (call.End n ending) = used s.tickets n (λ t. entered places s.entries t.cue) (ticket_at s.tickets n)
  gives _ = s.tickets

  abbrev pub after : Call K → State K
  after c = record { entries = s.entries ++ accepts c; tickets = gives c }

-- what is so far after these calls: it follows from them and the number of places alone
abbrev pub after_all : {K : Type 0} → (List ℕ → Option K) → ℕ → State K → List (Call K) → State K
after_all parsed places s [] = s
after_all parsed places s (c ∷ cs) = after_all parsed places (after parsed places s c) cs

module _ {K : Type 0} (alike : K → K → Bool) (parsed : List ℕ → Option K) (places : ℕ) where
  -- the answer to a call speaks of the entries accepted before it, and is a refusal exactly when its condition is the first met
  abbrev pub Right : State K → Call K → Result Answer Failure → Type 0
  Right s (call.Enter e) a = a ≡ place_or (entered places s.entries e.cue)
  Right s (call.ReadIn sheet) a =
      (a ≡ lines_or (read_in parsed places s.entries sheet.now).answer)
      × ReadsIn parsed places s.entries sheet.now (read_in parsed places s.entries sheet.now)
  Right s (call.Begin n) a = a ≡ ticket_or (length s.tickets + 1) (begun s.entries n)
  Right s (call.Record n step) a = a ≡ held (λ t. place_or (entered places s.entries t.cue)) (ticket_at s.tickets n)
  Right s (call.End n ending) a = a ≡ held (λ t. receipt_or ending (entered places s.entries t.cue)) (ticket_at s.tickets n)
  Right s call.Class a =
      (a ≡ Ok (answer.Class (class_of alike s.entries)))
      × IsClass alike s.entries (class_of alike s.entries)
  Right s (call.Order cells bytes) a = IsOrderAnswer alike s.entries cells bytes a
  Right s (call.Views cells) a = IsViewsAnswer alike s.entries cells a
  Right s (call.Why i j) a = (a ≡ why_or (why_answer alike s.entries i j)) × Tells alike s.entries i j (why_answer alike s.entries i j)

  -- each answer is right, in turn
  abbrev pub AllRight : State K → List (Call K) → List (Result Answer Failure) → Type 0
  AllRight s [] [] = Unit {0}
  AllRight s [] (a ∷ rest) = ⊥
  AllRight s (c ∷ cs) [] = ⊥
  AllRight s (c ∷ cs) (a ∷ rest) = Right s c a × AllRight (after parsed places s c) cs rest

  -- the law of a run: each answer is right about what was accepted before it; after a cycle no order is shown; and the class never rises
  pub record Lawful (calls : List (Call K)) (answers : List (Result Answer Failure)) : Type 0 where
    pub right : AllRight start calls answers
    pub cycles : (i j : ℕ) (c d : Cues) (x : Result Answer Failure) → i < j → j < length answers → slice_index_or answers i x ≡ Ok (answer.Cycle c) → slice_index_or answers j x ≢ Ok (answer.Order d)
    pub classes : (i j : ℕ) (c d : Class) (x : Result Answer Failure) → i < j → j < length answers → slice_index_or answers i x ≡ Ok (answer.Class c) → slice_index_or answers j x ≡ Ok (answer.Class d) → class_number d ≤ class_number c

  -- what a run leaves: answers and tickets stand in the first cells, and the others are as they were
  pub record Performed (calls : List (Call K)) (answers answers' : List (Result Answer Failure)) (cells cells' : List (Option Ticket)) (memory memory' : List (Entry K)) : Type 0 where
    pub law : Lawful calls (take (length calls) answers')
    pub rest : drop (length calls) answers' ≡ drop (length calls) answers
    pub tickets : cells' ≡ (after_all parsed places start calls).tickets ++ drop (length (after_all parsed places start calls).tickets) cells
    pub entries : memory' ≡ (after_all parsed places start calls).entries ++ drop (length (after_all parsed places start calls).entries) memory

-- what is wanted, for so many calls
abbrev pub wanted : (calls answers cells : ℕ) → Result (Unit {0}) Want
wanted calls answers cells = cond (nat_lt answers calls) (Err want.Answers) (cond (nat_lt cells calls) (Err want.Tickets) (Ok tt))

-- a run that is refused leaves all as it was
pub record Untouched {K : Type 0} (answers answers' : List (Result Answer Failure)) (cells cells' : List (Option Ticket)) (memory memory' : List (Entry K)) : Type 0 where
  pub said : answers' ≡ answers
  pub tickets : cells' ≡ cells
  pub entries : memory' ≡ memory

abbrev pub Ran : {K : Type 0} → (K → K → Bool) → (List ℕ → Option K) → ℕ → List (Call K) → (answers answers' : List (Result Answer Failure)) (cells cells' : List (Option Ticket)) (memory memory' : List (Entry K)) → Result (Unit {0}) Want → Type 0
Ran alike parsed places calls answers answers' cells cells' memory memory' (Ok x) = Performed alike parsed places calls answers answers' cells cells' memory memory'
Ran alike parsed places calls answers answers' cells cells' memory memory' (Err w) = Untouched answers answers' cells cells' memory memory'
