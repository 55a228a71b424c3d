-- A run with right answers is lawful.
use Rattle.std.proofs.Common.{◌≡◌, ℕ, zero, suc, ◌<◌, ◌≤◌, Bool, List, [], ◌∷◌, ◌++◌, length, get_or, Some, None, Ok, Err, Option, Result, sym, refl, ◌∙◌, subst, append_assoc, append-nil, arith}
use Rattle.history.specs.declared.Entry.{Entry}
use Rattle.history.specs.Order.{conflict_order, ConflictCycle}
use Rattle.recovery.specs.declared.Class.{Class}
use Rattle.recovery.specs.Classes.{class_number, class_of}
use Rattle.recovery.proofs.ClassLaws.{class_never_rises}
use Rattle.serial.specs.Why.{why_answer}
use Rattle.serial.proofs.Lasting.{cycle_lasts_lem}
use Rattle.book.specs.declared.tickets.Ticket.{Ticket}
use Rattle.book.specs.Entering.{entered}
use Rattle.book.specs.Reading.{read_in}
use Rattle.book.specs.Tickets.{begun}
use Rattle.runs.specs.declared.Answer.{Answer}
use Rattle.runs.specs.declared.Answer.TheVariants as answer
use Rattle.runs.specs.declared.Call.{Call}
use Rattle.runs.specs.declared.Call.TheVariants as call
use Rattle.runs.specs.declared.cues.Cues.{Cues}
use Rattle.runs.specs.declared.Failure.{Failure}
use Rattle.runs.specs.declared.Failure.TheVariants as failure
use Rattle.runs.specs.Answers.{cues_of, IsOrderAnswer, IsViewsAnswer}
use Rattle.runs.specs.Runs.{State, start, told, place_or, receipt_or, held, ticket_at, accepts, after, Right, AllRight, Lawful}

module _ {K : Type 0} (alike : K → K → Bool) where
  -- what an order, a cycle or a class says of the entries; the other answers say nothing here
  abbrev Says : List (Entry K) → Result Answer Failure → Type 0
  Says es (Ok (answer.Order c)) = conflict_order alike es ≡ Some (cues_of c)
  Says es (Ok (answer.Cycle c)) = ConflictCycle alike es (cues_of c)
  Says es (Ok (answer.Class c)) = c ≡ class_of alike es
  Says es _ = Unit {0}

  -- an order cannot be shown after a cycle
  no_order_after_cycle : (es more : List (Entry K)) (c d : Cues) → Says es (Ok (answer.Cycle c)) → Says (es ++ more) (Ok (answer.Order d)) → ⊥
  no_order_after_cycle es more c d cycle shown =
      let none = sym (cycle_lasts_lem K alike es more (cues_of c) cycle) ∙ shown in cc

  class_falls : (es more : List (Entry K)) (c d : Class) → Says es (Ok (answer.Class c)) → Says (es ++ more) (Ok (answer.Class d)) → class_number d ≤ class_number c
  class_falls es more c d is later = rw is (rw later (class_never_rises K alike es more))

  module _ (es : List (Entry K)) where
    told_says : {X E : Type 0} (answers : X → Answer) (fails : E → Failure) (r : Result X E) → ((x : X) → Says es (Ok (answers x))) → Says es (told answers fails r)
    told_says answers fails (Ok x) h = h x
    told_says answers fails (Err e) h = tt

    held_says : (f : Ticket → Result Answer Failure) → ((t : Ticket) → Says es (f t)) → (o : Option Ticket) → Says es (held f o)
    held_says f h None = tt
    held_says f h (Some t) = h t

    order_says : (cells bytes : ℕ) (a : Result Answer Failure) → IsOrderAnswer alike es cells bytes a → Says es a
    order_says cells bytes (Ok (answer.Order c)) h = h.order
    order_says cells bytes (Ok (answer.Cycle c)) h = h.right.0
    order_says cells bytes (Err f) h = tt
    order_says cells bytes _ h = absurd h

    views_say : (cells : ℕ) (a : Result Answer Failure) → IsViewsAnswer alike es cells a → Says es a
    views_say cells (Ok (answer.Order c)) h = absurd h
    views_say cells (Ok (answer.Cycle c)) h = absurd h
    views_say cells (Ok (answer.Class c)) h = absurd h
    views_say cells _ h = tt

  module _ (parsed : List ℕ → Option K) (places : ℕ) where
    -- an answer that is right speaks of the entries so far
    right_says : (s : State K) (c : Call K) (a : Result Answer Failure) → Right alike parsed places s c a → Says s.entries a
    right_says s (call.Enter e) a h = rw h (told_says s.entries answer.Place failure.Refused (entered places s.entries e.cue) (λ p. tt))
    right_says s (call.ReadIn sheet) a h = rw h.0 (told_says s.entries answer.Lines failure.Fault (read_in parsed places s.entries sheet.now).answer (λ n. tt))
    right_says s (call.Begin n) a h = rw h (told_says s.entries (λ t. answer.Ticket _) failure.Refused (begun s.entries n) (λ t. tt))
    right_says s (call.Record n step) a h =
        let says = λ (t : Ticket). told_says s.entries answer.Place failure.Refused (entered places s.entries t.cue) (λ p. tt) in
        rw h (held_says s.entries (λ t. place_or (entered places s.entries t.cue)) says (ticket_at s.tickets n))
    right_says s (call.End n ending) a h =
        let says = λ (t : Ticket). told_says s.entries (λ p. answer.Receipt p ending) failure.Refused (entered places s.entries t.cue) (λ p. tt) in
        rw h (held_says s.entries (λ t. receipt_or ending (entered places s.entries t.cue)) says (ticket_at s.tickets n))
    right_says s call.Class a h = rw h.0 refl
    right_says s (call.Order cells bytes) a h = order_says s.entries cells bytes a h
    right_says s (call.Views cells) a h = views_say s.entries cells a h
    right_says s (call.Why i j) a h = rw h.0 (told_says s.entries answer.Why failure.Refused (why_answer alike s.entries i j) (λ w. tt))

    -- an answer of the run speaks of the entries so far and what was accepted after them
    record Said (es : List (Entry K)) (a : Result Answer Failure) : Type 0 where
      more : List (Entry K)
      says : Says (es ++ more) a

    said_at : (s : State K) (calls : List (Call K)) (answers : List (Result Answer Failure)) → AllRight alike parsed places s calls answers → (j : ℕ) (x : Result Answer Failure) → j < length answers → Said s.entries (get_or answers j x)
    said_at s [] [] h j x l = absurd (omega arith)
    said_at s [] (a ∷ rest) h j x l = absurd h
    said_at s (c ∷ cs) [] h j x l = absurd h
    said_at s (c ∷ cs) (a ∷ rest) h zero x l =
        record {
          more = [];
          says = subst (λ (es : List (Entry K)). Says es a) (sym (append-nil s.entries)) (right_says s c a h.0);
        }
    said_at s (c ∷ cs) (a ∷ rest) h (suc j) x l =
        let ih = said_at (after parsed places s c) cs rest h.1 j x (omega arith) in
        record {
          more = accepts parsed places s c ++ ih.more;
          says = subst (λ (es : List (Entry K)). Says es (get_or rest j x)) (append_assoc s.entries (accepts parsed places s c) ih.more) ih.says;
        }

    -- of two answers the later one speaks of more entries
    record SaidBoth (a b : Result Answer Failure) : Type 0 where
      es : List (Entry K)
      more : List (Entry K)
      first : Says es a
      then : Says (es ++ more) b

    said_both : (s : State K) (calls : List (Call K)) (answers : List (Result Answer Failure)) → AllRight alike parsed places s calls answers → (i j : ℕ) (x : Result Answer Failure) → i < j → j < length answers → SaidBoth (get_or answers i x) (get_or answers j x)
    said_both s calls answers h i zero x o l = absurd (omega arith)
    said_both s [] [] h i (suc j) x o l = absurd (omega arith)
    said_both s [] (a ∷ rest) h i (suc j) x o l = absurd h
    said_both s (c ∷ cs) [] h i (suc j) x o l = absurd h
    said_both s (c ∷ cs) (a ∷ rest) h zero (suc j) x o l =
        let later = said_at s (c ∷ cs) (a ∷ rest) h (suc j) x l in
        record { es = s.entries; more = later.more; first = right_says s c a h.0; then = later.says }
    said_both s (c ∷ cs) (a ∷ rest) h (suc i) (suc j) x o l = said_both (after parsed places s c) cs rest h.1 i j x (omega arith) (omega arith)

pub lawful : {K : Type 0} (alike : K → K → Bool) (parsed : List ℕ → Option K) (places : ℕ) (calls : List (Call K)) (answers : List (Result Answer Failure)) → AllRight alike parsed places start calls answers → Lawful alike parsed places calls answers
lawful alike parsed places calls answers h =
    record {
      right = h;
      cycles = λ i j c d x o l is later.
          let both = said_both alike parsed places start calls answers h i j x o l in
          no_order_after_cycle alike both.es both.more c d (subst (Says alike both.es) is both.first) (subst (Says alike (both.es ++ both.more)) later both.then);
      classes = λ i j c d x o l is later.
          let both = said_both alike parsed places start calls answers h i j x o l in
          class_falls alike both.es both.more c d (subst (Says alike both.es) is both.first) (subst (Says alike (both.es ++ both.more)) later both.then);
    }
