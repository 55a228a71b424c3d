-- What is right to answer is what is told.
use Rattle.std.proofs.Common.{◌≡◌, ℕ, zero, suc, ◌+◌, Bool, true, false, cond, ltb, List, [], ◌∷◌, length, take, Some, None, Ok, Err, Option, Result, sym, refl, ap, ◌∙◌, subst, inl, inr, arith}
use Rattle.std.specs.List.{slice_get}
use Rattle.std.proofs.lemmas.Bool.{lt-ltb, le-ltb, ltb-true, ltb-false}
use Rattle.refusals.specs.declared.Refusal.{Refusal}
use Rattle.history.specs.declared.Ending.{Ending}
use Rattle.book.specs.declared.tickets.Ticket.{Ticket}
use Rattle.book.specs.Entering.{entered}
use Rattle.book.specs.Entered.{IsEntered, IsBegun}
use Rattle.book.specs.Tickets.{begun}
use Rattle.book.proofs.Entered.{entering_is_told_lem, beginning_is_told_lem, begun_is}
use Rattle.runs.specs.declared.Answer.{Answer}
use Rattle.runs.specs.declared.Answer.TheVariants as answer
use Rattle.runs.specs.declared.Call.{Call}
use Rattle.runs.specs.declared.Failure.{Failure}
use Rattle.runs.specs.declared.Failure.TheVariants as failure
use Rattle.runs.specs.declared.Want.{Want}
use Rattle.runs.specs.declared.Want.TheVariants as want
use Rattle.runs.specs.Runs.{State, ticket_at, place_or, receipt_or, ticket_or, held, after, after_all, wanted, Right, AllRight}
use Rattle.runs.specs.Laws.{TellsPlace, TellsReceipt, TellsTicket, Through}
use Rattle.runs.specs.Laws.{RightIsTold, TellsWant, WantIsTold, AllRightIsTold, RunsGoOn}
use Rattle.runs.proofs.Going.{after_push}

module _ {K : Type 0} (places : ℕ) (s : State K) where
  place_to : (n : ℕ) (r : Result ℕ Refusal) → IsEntered places s.entries n r → TellsPlace places s n (place_or r)
  place_to n (Ok p) h = h
  place_to n (Err f) h = h

  receipt_to : (n : ℕ) (d : Ending) (r : Result ℕ Refusal) → IsEntered places s.entries n r → TellsReceipt places s n d (receipt_or d r)
  receipt_to n d (Ok p) h = (h, refl)
  receipt_to n d (Err f) h = h

  ticket_to : (n : ℕ) (r : Result Ticket Refusal) → IsBegun s.entries n r → TellsTicket places s n (ticket_or (length s.tickets + 1) r)
  ticket_to n (Ok t) h = (refl, h.cue, h.unentered)
  ticket_to n (Err f) h = h

  is_entered : (n : ℕ) → IsEntered places s.entries n (entered places s.entries n)
  is_entered n = (entering_is_told_lem K places s.entries n (entered places s.entries n)).1 refl

  entered_to : (n : ℕ) (r : Result ℕ Refusal) → IsEntered places s.entries n r → r ≡ entered places s.entries n
  entered_to n r h = (entering_is_told_lem K places s.entries n r).0 h

  tells_place : (n : ℕ) (a : Result Answer Failure) → a ≡ place_or (entered places s.entries n) → TellsPlace places s n a
  tells_place n a h = subst (TellsPlace places s n) (sym h) (place_to n (entered places s.entries n) (is_entered n))

  place_tells : (n : ℕ) (a : Result Answer Failure) → TellsPlace places s n a → a ≡ place_or (entered places s.entries n)
  place_tells n (Ok (answer.Place p)) h = ap place_or (entered_to n (Ok p) h)
  place_tells n (Err (failure.Refused f)) h = ap place_or (entered_to n (Err f) h)
  place_tells n _ h = absurd h

  tells_receipt : (n : ℕ) (d : Ending) (a : Result Answer Failure) → a ≡ receipt_or d (entered places s.entries n) → TellsReceipt places s n d a
  tells_receipt n d a h = subst (TellsReceipt places s n d) (sym h) (receipt_to n d (entered places s.entries n) (is_entered n))

  receipt_tells : (n : ℕ) (d : Ending) (a : Result Answer Failure) → TellsReceipt places s n d a → a ≡ receipt_or d (entered places s.entries n)
  receipt_tells n d (Ok (answer.Receipt p e)) h = ap (λ (x : Ending). Ok (answer.Receipt p x)) h.1 ∙ ap (receipt_or d) (entered_to n (Ok p) h.0)
  receipt_tells n d (Err (failure.Refused f)) h = ap (receipt_or d) (entered_to n (Err f) h)
  receipt_tells n d _ h = absurd h

  tells_ticket : (n : ℕ) (a : Result Answer Failure) → a ≡ ticket_or (length s.tickets + 1) (begun s.entries n) → TellsTicket places s n a
  tells_ticket n a h = subst (TellsTicket places s n) (sym h) (ticket_to n (begun s.entries n) (begun_is s.entries n))

  ticket_tells : (n : ℕ) (a : Result Answer Failure) → TellsTicket places s n a → a ≡ ticket_or (length s.tickets + 1) (begun s.entries n)
  ticket_tells n (Ok (answer.Ticket k)) h =
      let t : Ticket = record { cue = n } in
      ap (λ (x : ℕ). Ok (answer.Ticket x)) h.0
      ∙ ap (ticket_or (length s.tickets + 1)) ((beginning_is_told_lem K s.entries n (Ok t)).0 (record { cue = h.1; unentered = h.2; of = refl }))
  ticket_tells n (Err (failure.Refused f)) h = ap (ticket_or (length s.tickets + 1)) ((beginning_is_told_lem K s.entries n (Err f)).0 h)
  ticket_tells n _ h = absurd h

  -- through a ticket
  module _ (n : ℕ) (f : ℕ → Result Answer Failure) (a : Result Answer Failure) (IsSo : ℕ → Type 0) where
    through_by : ((cue : ℕ) → a ≡ f cue → IsSo cue) → (o : Option Ticket) → ticket_at s.tickets n ≡ o → a ≡ held (λ t. f t.cue) o → Through s n IsSo a
    through_by so None there h = inr (there, h)
    through_by so (Some t) there h = inl (record { ticket = t; held = there; so = so t.cue h })

    by_through : ((cue : ℕ) → IsSo cue → a ≡ f cue) → Through s n IsSo a → a ≡ held (λ t. f t.cue) (ticket_at s.tickets n)
    by_through is (inl h) = is h.ticket.cue h.so ∙ sym (ap (held (λ t. f t.cue)) h.held)
    by_through is (inr h) = h.1 ∙ sym (ap (held (λ t. f t.cue)) h.0)

pub right_is_told : (K : Type 0) → RightIsTold K
right_is_told K =
    record {
      enter = λ alike parsed places s e a. (tells_place places s e.cue a, place_tells places s e.cue a);
      begin = λ alike parsed places s n a. (tells_ticket places s n a, ticket_tells places s n a);
      step = λ alike parsed places s n step a. (
        through_by places s n (λ cue. place_or (entered places s.entries cue)) a (λ cue. TellsPlace places s cue a) (λ cue h. tells_place places s cue a h) (ticket_at s.tickets n) refl,
        by_through places s n (λ cue. place_or (entered places s.entries cue)) a (λ cue. TellsPlace places s cue a) (λ cue h. place_tells places s cue a h),
      );
      end = λ alike parsed places s n d a. (
        through_by places s n (λ cue. receipt_or d (entered places s.entries cue)) a (λ cue. TellsReceipt places s cue d a) (λ cue h. tells_receipt places s cue d a h) (ticket_at s.tickets n) refl,
        by_through places s n (λ cue. receipt_or d (entered places s.entries cue)) a (λ cue. TellsReceipt places s cue d a) (λ cue h. receipt_tells places s cue d a h),
      );
    }

module _ {K : Type 0} (alike : K → K → Bool) (parsed : List ℕ → Option K) (places : ℕ) where
  all_each : (s : State K) (calls : List (Call K)) (answers : List (Result Answer Failure)) → AllRight alike parsed places s calls answers → (i : ℕ) (c : Call K) (a : Result Answer Failure) → slice_get calls i ≡ Some c → slice_get answers i ≡ Some a → Right alike parsed places (after_all parsed places s (take i calls)) c a
  all_each s [] answers h i c a at said = cc
  all_each s (d ∷ cs) [] h i c a at said = absurd h
  all_each s (d ∷ cs) (b ∷ rest) h zero c a at said =
      let same : d ≡ c = cc in
      let told : b ≡ a = cc in
      subst (λ (x : Call K). Right alike parsed places s x a) same (subst (Right alike parsed places s d) told h.0)
  all_each s (d ∷ cs) (b ∷ rest) h (suc i) c a at said = all_each (after parsed places s d) cs rest h.1 i c a at said

  all_size : (s : State K) (calls : List (Call K)) (answers : List (Result Answer Failure)) → AllRight alike parsed places s calls answers → length answers ≡ length calls
  all_size s [] [] h = refl
  all_size s [] (a ∷ rest) h = absurd h
  all_size s (c ∷ cs) [] h = absurd h
  all_size s (c ∷ cs) (a ∷ rest) h = omega (arith, all_size (after parsed places s c) cs rest h.1)

  each_all : (s : State K) (calls : List (Call K)) (answers : List (Result Answer Failure)) → length answers ≡ length calls → ((i : ℕ) (c : Call K) (a : Result Answer Failure) → slice_get calls i ≡ Some c → slice_get answers i ≡ Some a → Right alike parsed places (after_all parsed places s (take i calls)) c a) → AllRight alike parsed places s calls answers
  each_all s [] [] size each = tt
  each_all s [] (a ∷ rest) size each = absurd (omega arith)
  each_all s (c ∷ cs) [] size each = absurd (omega arith)
  each_all s (c ∷ cs) (a ∷ rest) size each =
      (each 0 c a refl refl, each_all (after parsed places s c) cs rest (omega (arith, size)) (λ i d b at said. each (suc i) d b at said))

pub all_right_is_told : (K : Type 0) → AllRightIsTold K
all_right_is_told K alike parsed places s calls answers = (
  λ h. record { size = all_size alike parsed places s calls answers h; each = all_each alike parsed places s calls answers h },
  λ h. each_all alike parsed places s calls answers h.size h.each,
)

pub want_is_told : WantIsTold
want_is_told calls answers cells r = (told r, λ e. subst (TellsWant calls answers cells) (sym e) (tells (ltb answers calls) (ltb cells calls) refl refl))
  where
    tells : (a b : Bool) → ltb answers calls ≡ a → ltb cells calls ≡ b → TellsWant calls answers cells (cond a (Err want.Answers) (cond b (Err want.Tickets) (Ok tt)))
    tells true b few less = ltb-true answers calls few
    tells false true few less = (ltb-false answers calls few, ltb-true cells calls less)
    tells false false few less = (ltb-false answers calls few, ltb-false cells calls less)

    by : (a b : Bool) → ltb answers calls ≡ a → ltb cells calls ≡ b → cond a (Err want.Answers) (cond b (Err want.Tickets) (Ok tt)) ≡ wanted calls answers cells
    by a b few less = sym (λ i. cond (few i) (Err want.Answers) (cond (less i) (Err want.Tickets) (Ok tt)))

    told : (r : Result (Unit {0}) Want) → TellsWant calls answers cells r → r ≡ wanted calls answers cells
    told (Ok x) h = by false false (le-ltb answers calls h.0) (le-ltb cells calls h.1)
    told (Err want.Answers) h = by true (ltb cells calls) (lt-ltb answers calls h) refl
    told (Err want.Tickets) h = by false true (le-ltb answers calls h.0) (lt-ltb cells calls h.1)

pub runs_go_on : (K : Type 0) → RunsGoOn K
runs_go_on K =
    record {
      none = λ parsed places s. refl;
      more = λ parsed places s calls c. after_push (λ a b. true) parsed places s calls c;
    }
