-- What a call leaves is what its answer says.
use Rattle.std.proofs.Common.{◌≡◌, ℕ, ◌+◌, ◌-◌, Bool, List, [], ◌∷◌, ◌++◌, length, Some, None, Ok, Err, Option, Result, sym, refl, ◌∙◌, append-nil, arith}
use Rattle.std.proofs.lemmas.List.{length_push, length-set}
use Rattle.refusals.specs.declared.Refusal.{Refusal}
use Rattle.history.specs.declared.Ending.{Ending}
use Rattle.history.specs.declared.Entry.{Entry}
use Rattle.history.specs.Endings.{act_of}
use Rattle.serial.specs.declared.Pair.{Pair}
use Rattle.serial.specs.Why.{why_answer}
use Rattle.book.specs.declared.sheets.ReadFault.{ReadFault}
use Rattle.book.specs.declared.tickets.Ticket.{Ticket}
use Rattle.book.specs.declared.tickets.Step.{Step}
use Rattle.book.specs.Entering.{entered}
use Rattle.book.specs.Entered.{IsBegun}
use Rattle.book.specs.Reading.{read_in}
use Rattle.book.specs.Tickets.{begun, stepped, under}
use Rattle.book.proofs.Entered.{begun_is, entered_stands_lem}
use Rattle.book.proofs.Entering.{entered_free}
use Rattle.book.proofs.ReadsIn.{reads_by}
use Rattle.runs.specs.declared.Answer.{Answer}
use Rattle.runs.specs.declared.Answer.TheVariants as answer
use Rattle.runs.specs.declared.Call.{Call}
use Rattle.runs.specs.declared.Call.TheVariants as call
use Rattle.runs.specs.declared.Failure.{Failure}
use Rattle.runs.specs.declared.Failure.TheVariants as failure
use Rattle.runs.specs.Answers.{IsOrderAnswer, IsViewsAnswer}
use Rattle.runs.specs.Runs.{State, ticket_at, place_or, receipt_or, ticket_or, lines_or, why_or, held, more, used_by, used, one, one_under, after, Right}
use Rattle.runs.specs.Laws.{AsksFor, IsPlaced, LeavesState, StateIsAsAnswered}
use Rattle.runs.proofs.Doing.{read_front}
use Rattle.runs.proofs.Numbered.{sets_next, sets_none}

module _ {K : Type 0} (parsed : List ℕ → Option K) (places : ℕ) (s : State K) where
  none_more : (ts : List (Option Ticket)) → ts ≡ s.tickets → record { entries = s.entries ++ []; tickets = ts } ≡ s
  none_more ts same = (λ i. record { entries = append-nil s.entries i; tickets = same i })

  placed : (c : Call K) (e : Entry K) (ts : List (Option Ticket)) (p : ℕ) → AsksFor s c e → entered places s.entries e.cue ≡ Ok p → IsPlaced s c (record { entries = s.entries ++ e ∷ []; tickets = ts }) p
  placed c e ts p asked is =
      record {
        entry = e;
        asked = asked;
        grows = refl;
        stands = entered_stands_lem K places s.entries e p is;
        last = (entered_free places s.entries e.cue p is).next ∙ sym (length_push s.entries e ∙ omega arith);
      }

  left_enter : (e : Entry K) (r : Result ℕ Refusal) → entered places s.entries e.cue ≡ r → LeavesState parsed places s (call.Enter e) (place_or r) (record { entries = s.entries ++ one e r; tickets = s.tickets })
  left_enter e (Ok p) is = (placed (call.Enter e) e s.tickets p refl is, refl)
  left_enter e (Err f) is = none_more s.tickets refl

  left_record : (n : ℕ) (step : Step K) (t : Ticket) (r : Result ℕ Refusal) → ticket_at s.tickets n ≡ Some t → entered places s.entries t.cue ≡ r → LeavesState parsed places s (call.Record n step) (place_or r) (record { entries = s.entries ++ one (under t (stepped step)) r; tickets = s.tickets })
  left_record n step t (Ok p) there is =
      (placed (call.Record n step) (under t (stepped step)) s.tickets p (record { ticket = t; held = there; cue = refl; act = refl }) is, refl)
  left_record n step t (Err f) there is = none_more s.tickets refl

  left_under : (n : ℕ) (step : Step K) (o : Option Ticket) → ticket_at s.tickets n ≡ o → LeavesState parsed places s (call.Record n step) (held (λ t. place_or (entered places s.entries t.cue)) o) (record { entries = s.entries ++ one_under (λ t. one (under t (stepped step)) (entered places s.entries t.cue)) o; tickets = s.tickets })
  left_under n step None there = none_more s.tickets refl
  left_under n step (Some t) there = left_record n step t (entered places s.entries t.cue) there refl

  left_end : (n : ℕ) (d : Ending) (t : Ticket) (r : Result ℕ Refusal) → ticket_at s.tickets n ≡ Some t → entered places s.entries t.cue ≡ r → LeavesState parsed places s (call.End n d) (receipt_or d r) (record { entries = s.entries ++ one (under t (act_of d)) r; tickets = used_by s.tickets n r })
  left_end n d t (Ok p) there is = (
    placed (call.End n d) (under t (act_of d)) (used_by s.tickets n (Ok p)) p (record { ticket = t; held = there; cue = refl; act = refl }) is,
    refl,
    sets_none s.tickets n t there,
    length-set s.tickets (n - 1) None,
  )
  left_end n d t (Err f) there is = none_more s.tickets refl

  left_ended : (n : ℕ) (d : Ending) (o : Option Ticket) → ticket_at s.tickets n ≡ o → LeavesState parsed places s (call.End n d) (held (λ t. receipt_or d (entered places s.entries t.cue)) o) (record { entries = s.entries ++ one_under (λ t. one (under t (act_of d)) (entered places s.entries t.cue)) o; tickets = used s.tickets n (λ t. entered places s.entries t.cue) o })
  left_ended n d None there = none_more s.tickets refl
  left_ended n d (Some t) there = left_end n d t (entered places s.entries t.cue) there refl

  left_begin : (n : ℕ) (r : Result Ticket Refusal) → IsBegun s.entries n r → LeavesState parsed places s (call.Begin n) (ticket_or (length s.tickets + 1) r) (record { entries = s.entries ++ []; tickets = more s.tickets r })
  left_begin n (Ok t) h =
      record {
        cue = h.cue;
        unentered = h.unentered;
        next = refl;
        ticket = t;
        of = h.of;
        sets = sets_next s.tickets t (length s.tickets + 1) (omega arith);
        count = length_push s.tickets (Some t) ∙ omega arith;
        same = append-nil s.entries;
      }
  left_begin n (Err f) h = none_more s.tickets refl

  module _ (alike : K → K → Bool) where
    left_order : (cells bytes : ℕ) (a : Result Answer Failure) → IsOrderAnswer alike s.entries cells bytes a → LeavesState parsed places s (call.Order cells bytes) a (record { entries = s.entries ++ []; tickets = s.tickets })
    left_order cells bytes (Ok (answer.Order c)) h = none_more s.tickets refl
    left_order cells bytes (Ok (answer.Cycle c)) h = none_more s.tickets refl
    left_order cells bytes (Err (failure.Refused f)) h = none_more s.tickets refl
    left_order cells bytes _ h = absurd h

    left_views : (cells : ℕ) (a : Result Answer Failure) → IsViewsAnswer alike s.entries cells a → LeavesState parsed places s (call.Views cells) a (record { entries = s.entries ++ []; tickets = s.tickets })
    left_views cells (Ok (answer.Views o)) h = none_more s.tickets refl
    left_views cells (Err (failure.Refused f)) h = none_more s.tickets refl
    left_views cells (Ok (answer.Place p)) h = absurd h
    left_views cells (Ok (answer.Lines n)) h = absurd h
    left_views cells (Ok (answer.Ticket n)) h = absurd h
    left_views cells (Ok (answer.Receipt p d)) h = absurd h
    left_views cells (Err (failure.Fault f)) h = absurd h
    left_views cells _ h = none_more s.tickets refl

    left_why : (i j : ℕ) (r : Result (Option Pair) Refusal) → LeavesState parsed places s (call.Why i j) (why_or r) (record { entries = s.entries ++ []; tickets = s.tickets })
    left_why i j (Ok w) = none_more s.tickets refl
    left_why i j (Err f) = none_more s.tickets refl

    left_by : (c : Call K) (a : Result Answer Failure) → Right alike parsed places s c a → LeavesState parsed places s c a (after parsed places s c)
    left_by (call.Enter e) a h = rw h (left_enter e (entered places s.entries e.cue) refl)
    left_by (call.ReadIn sheet) a h = rw h.0 (go (read_in parsed places s.entries sheet.now).answer refl)
      where
        go : (r : Result ℕ ReadFault) → (read_in parsed places s.entries sheet.now).answer ≡ r → LeavesState parsed places s (call.ReadIn sheet) (lines_or r) (after parsed places s (call.ReadIn sheet))
        go (Ok n) is = (reads_by parsed places s.entries sheet.now (Ok n) (after parsed places s (call.ReadIn sheet)).entries (sym is) (sym (read_front parsed places s.entries sheet.now)), refl)
        go (Err f) is = (reads_by parsed places s.entries sheet.now (Err f) (after parsed places s (call.ReadIn sheet)).entries (sym is) (sym (read_front parsed places s.entries sheet.now)), refl)
    left_by (call.Begin n) a h = rw h (left_begin n (begun s.entries n) (begun_is s.entries n))
    left_by (call.Record n step) a h = rw h (left_under n step (ticket_at s.tickets n) refl)
    left_by (call.End n d) a h = rw h (left_ended n d (ticket_at s.tickets n) refl)
    left_by call.Class a h = rw h.0 (none_more s.tickets refl)
    left_by (call.Order cells bytes) a h = left_order cells bytes a h
    left_by (call.Views cells) a h = left_views cells a h
    left_by (call.Why i j) a h = rw h.0 (left_why i j (why_answer alike s.entries i j))

pub state_is_as_answered : (K : Type 0) → StateIsAsAnswered K
state_is_as_answered K alike parsed places s c a h = left_by parsed places s alike c a h
