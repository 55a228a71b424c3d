-- Laws of runs, by places, cues and tickets.
--
--   IsUnder ts n a e       == e does a, and is of the cue of the ticket with the number n
--   AsksFor s c e          == e is the entry that the call is to enter
--   IsPlaced s c s' p      == from s to s' the call's entry is added, and stands at place p
--   SetsTicket ts ts' n t  == the ticket with the number n is t in ts', the others as in ts
--   PlacesEntry s c p s'   == the call entered its entry at place p, and that alone
--   EndsCue s c p d s'     == the call entered the ending d at place p, and its ticket is used up
--   GivesTicket s n k s'   == a ticket of cue n was given, with the number k, and that alone
--   BeginsCue s c k s'     == the call began a cue, and gave the ticket with the number k
--   ReadsSheet s c r s'    == the call read in a sheet, with the answer r
--   LeavesState s c a s'   == after the call, answered with a, what was so far is s'
--   TellsPlace s n a       == a is right to answer to an entry of cue n
--   TellsReceipt s n d a   == a is right to answer to the ending d of cue n
--   TellsTicket s n a      == a is right to answer to a begin of cue n
--   IsEnough es m n        == m cells and n bytes are enough to lend for an order
--   IsFew es m             == few enough cues are committed for views, and m cells are enough
--   TellsClass es a        == a is right to answer to the question for the class
--   TellsWhy es i j a      == a is right to answer to the question why i comes before j
--   TellsOrder es m n a    == a is right to answer to the question for an order, for m cells and
--                             n bytes
--   TellsViews es m a      == a is right to answer to the question for a view-equivalent order, for
--                             m cells
--   AnswersSheet es bs r   == r is right of the sheet bs, for some entries that it leaves
--   TellsSheet es bs a     == a is right to answer to a call that reads in the sheet bs
--   IsHeldBy s n IsSo      == a ticket with the number n is held, and so it is for its cue
--   Through s n IsSo a     == a is so for the cue of the ticket n, or says that there is none
--   TellsWant n m k r      == r is right to answer for n calls, m cells for answers, k for tickets
--   AreRight s calls as    == the answers are right, each after the calls before it
--   IsBook places es       == es can be the entries of a book of so many places
--   ShowsOrder o a         == a shows the order o
--   ShowsCycle a           == a shows a cycle
--   ShowsView o a          == a shows the view-equivalent order o, or that there is none
use Rattle.std.specs.Prelude.{◌≡◌, ◌≢◌, ℕ, suc, ◌+◌, ◌<◌, ◌≤◌, Bool, ◌⊎◌, ◌↔◌, List, [], ◌∷◌}
use Rattle.std.specs.Prelude.{◌++◌, length, take, Some, None, Ok, Err, Option, Result}
use Rattle.std.specs.Borrow.{Bor}
use Rattle.std.specs.List.{slice_get}
use Rattle.refusals.specs.declared.Refusal.TheVariants.{ListShort, StripShort, ManyCues}
use Rattle.history.specs.declared.Act.{Act}
use Rattle.history.specs.declared.Act.TheVariants.{Commit, Abort}
use Rattle.history.specs.declared.Ending.{Ending}
use Rattle.history.specs.declared.Entry.{Entry}
use Rattle.history.specs.Endings.{act_of}
use Rattle.history.specs.Places.{IsCue, entry_at}
use Rattle.history.specs.Cues.{HasEntry}
use Rattle.history.specs.Order.{committed_cues}
use Rattle.history.specs.Answers.{ordered, cyclic, AnswersOrder, ShownKeepsView, AnswersViews}
use Rattle.equivalence.specs.Laws.{Sameness}
use Rattle.recovery.specs.ReadsFrom.{IsClass}
use Rattle.serial.specs.Why.{Tells}
use Rattle.book.specs.declared.sheets.ReadFault.{ReadFault}
use Rattle.book.specs.declared.tickets.Ticket.{Ticket}
use Rattle.book.specs.declared.tickets.Step.{Step}
use Rattle.book.specs.Entered.{IsEntered, IsBegun}
use Rattle.book.specs.ReadsIn.{ReadsIn}
use Rattle.book.specs.Tickets.{stepped}
use Rattle.runs.specs.declared.Answer.{Answer}
use Rattle.runs.specs.declared.Answer.TheVariants as answer
use Rattle.runs.specs.declared.Call.{Call}
use Rattle.runs.specs.declared.Call.TheVariants as call
use Rattle.runs.specs.declared.cues.Cues.{Cues}
use Rattle.runs.specs.declared.Failure.{Failure}
use Rattle.runs.specs.declared.Failure.TheVariants as failure
use Rattle.runs.specs.declared.Want.{Want}
use Rattle.runs.specs.declared.Want.TheVariants as want
use Rattle.runs.specs.Answers.{cues_of, IsOrderAnswer, IsViewsAnswer}
use Rattle.runs.specs.Runs.{State, start, ticket_at, after, after_all, wanted, Right}
use Rattle.runs.specs.Runs.{AllRight}

module _ {K : Type 0} where
  pub record IsUnder (ts : List (Option Ticket)) (n : ℕ) (a : Act K) (e : Entry K) : Type 0 where
    pub ticket : Ticket
    pub held : ticket_at ts n ≡ Some ticket
    pub cue : e.cue ≡ ticket.cue
    pub act : e.act ≡ a

  abbrev pub AsksFor : State K → Call K → Entry K → Type 0
  AsksFor s (call.Enter d) e = e ≡ d
  AsksFor s (call.Record n step) e = IsUnder s.tickets n (stepped step) e
  AsksFor s (call.End n ending) e = IsUnder s.tickets n (act_of ending) e
  AsksFor s _ e = ⊥

  -- it is the last, and those before it are as they were
  pub record IsPlaced (s : State K) (c : Call K) (s' : State K) (p : ℕ) : Type 0 where
    pub entry : Entry K
    pub asked : AsksFor s c entry
    pub grows : s'.entries ≡ s.entries ++ entry ∷ []
    pub stands : entry_at s'.entries p ≡ Some entry
    pub last : p ≡ length s'.entries

pub record SetsTicket (ts ts' : List (Option Ticket)) (n : ℕ) (t : Option Ticket) : Type 0 where
  pub here : ticket_at ts' n ≡ t
  pub others : (m : ℕ) → m ≢ n → ticket_at ts' m ≡ ticket_at ts m

module _ {K : Type 0} (parsed : List ℕ → Option K) (places : ℕ) (s : State K) where
  -- an entry is placed, and no ticket changes
  abbrev pub PlacesEntry : Call K → ℕ → State K → Type 0
  PlacesEntry (call.End n d) p s' = ⊥
  PlacesEntry c p s' = IsPlaced s c s' p × (s'.tickets ≡ s.tickets)

  -- a ticket has ended its cue so, and is used up
  abbrev pub EndsCue : Call K → ℕ → Ending → State K → Type 0
  EndsCue (call.End n d) p ending s' =
      IsPlaced s (call.End n d) s' p
      × (ending ≡ d)
      × SetsTicket s.tickets s'.tickets n None
      × (length s'.tickets ≡ length s.tickets)
  EndsCue _ p ending s' = ⊥

  -- the next ticket, with the number k, is that of a cue without an entry
  pub record GivesTicket (n k : ℕ) (s' : State K) : Type 0 where
    pub cue : IsCue n
    pub unentered : HasEntry s.entries n → ⊥
    pub next : k ≡ length s.tickets + 1
    pub ticket : Ticket
    pub of : ticket.cue ≡ n
    pub sets : SetsTicket s.tickets s'.tickets k (Some ticket)
    pub count : length s'.tickets ≡ k
    pub same : s'.entries ≡ s.entries

  abbrev pub BeginsCue : Call K → ℕ → State K → Type 0
  BeginsCue (call.Begin n) k s' = GivesTicket n k s'
  BeginsCue _ k s' = ⊥

  -- a sheet was read in with that answer, and no ticket changes
  abbrev pub ReadsSheet : Call K → Result ℕ ReadFault → State K → Type 0
  ReadsSheet (call.ReadIn sheet) r s' =
      ReadsIn parsed places s.entries sheet.now (record { answer = r; entries = s'.entries })
      × (s'.tickets ≡ s.tickets)
  ReadsSheet _ r s' = ⊥

  -- by what is answered; any other answer, so each refusal and each answer to a question, leaves
  -- all as it was
  abbrev pub LeavesState : Call K → Result Answer Failure → State K → Type 0
  LeavesState c (Ok (answer.Place p)) s' = PlacesEntry c p s'
  LeavesState c (Ok (answer.Receipt p ending)) s' = EndsCue c p ending s'
  LeavesState c (Ok (answer.Ticket k)) s' = BeginsCue c k s'
  LeavesState c (Ok (answer.Lines n)) s' = ReadsSheet c (Ok n) s'
  LeavesState c (Err (failure.Fault f)) s' = ReadsSheet c (Err f) s'
  LeavesState c _ s' = s' ≡ s

-- what is right to answer
module _ {K : Type 0} (places : ℕ) (s : State K) where
  -- to an entry of cue n
  abbrev pub TellsPlace : ℕ → Result Answer Failure → Type 0
  TellsPlace n (Ok (answer.Place p)) = IsEntered places s.entries n (Ok p)
  TellsPlace n (Err (failure.Refused f)) = IsEntered places s.entries n (Err f)
  TellsPlace n _ = ⊥

  -- to an ending of cue n
  abbrev pub TellsReceipt : ℕ → Ending → Result Answer Failure → Type 0
  TellsReceipt n d (Ok (answer.Receipt p ending)) =
      IsEntered places s.entries n (Ok p) × (ending ≡ d)
  TellsReceipt n d (Err (failure.Refused f)) = IsEntered places s.entries n (Err f)
  TellsReceipt n d _ = ⊥

  -- to a begin of cue n
  abbrev pub TellsTicket : ℕ → Result Answer Failure → Type 0
  TellsTicket n (Ok (answer.Ticket k)) =
      (k ≡ length s.tickets + 1) × IsCue n × (HasEntry s.entries n → ⊥)
  TellsTicket n (Err (failure.Refused f)) = IsBegun s.entries n (Err f)
  TellsTicket n _ = ⊥

module _ {K : Type 0} (es : List (Entry K)) where
  -- a strip of 64 bytes, and a cell for each committed cue
  pub record IsEnough (cells bytes : ℕ) : Type 0 where
    pub strip : 64 ≤ bytes
    pub list : length (committed_cues es) ≤ cells

  -- at most 8 committed cues, and a cell for each
  pub record IsFew (cells : ℕ) : Type 0 where
    pub cues : length (committed_cues es) ≤ 8
    pub list : length (committed_cues es) ≤ cells

module _ {K : Type 0} (alike : K → K → Bool) (es : List (Entry K)) where
  -- to the question for the class
  abbrev pub TellsClass : Result Answer Failure → Type 0
  TellsClass (Ok (answer.Class c)) = IsClass alike es c
  TellsClass _ = ⊥

  -- to the question why cue i comes before cue j
  abbrev pub TellsWhy : (i j : ℕ) → Result Answer Failure → Type 0
  TellsWhy i j (Ok (answer.Why w)) = Tells alike es i j (Ok w)
  TellsWhy i j (Err (failure.Refused f)) = Tells alike es i j (Err f)
  TellsWhy i j _ = ⊥

  -- to the question for an order, with a list of so many cells and a strip of so many bytes; the
  -- refusals in their order: each where none before it applies
  abbrev pub TellsOrder : (cells bytes : ℕ) → Result Answer Failure → Type 0
  TellsOrder cells bytes (Ok (answer.Order c)) =
      IsEnough es cells bytes
      × AnswersOrder alike es (ordered (cues_of c))
      × ShownKeepsView alike es (ordered (cues_of c))
  TellsOrder cells bytes (Ok (answer.Cycle c)) =
      IsEnough es cells bytes × AnswersOrder alike es (cyclic (cues_of c))
  TellsOrder cells bytes (Err (failure.Refused StripShort)) = bytes < 64
  TellsOrder cells bytes (Err (failure.Refused ListShort)) =
      (64 ≤ bytes) × (cells < length (committed_cues es))
  TellsOrder cells bytes _ = ⊥

  -- to the question for a view-equivalent order, with a list of so many cells
  abbrev pub TellsViews : ℕ → Result Answer Failure → Type 0
  TellsViews cells (Ok (answer.Views (Some c))) =
      IsFew es cells × AnswersViews alike es (Some (cues_of c))
  TellsViews cells (Ok (answer.Views None)) = IsFew es cells × AnswersViews alike es None
  TellsViews cells (Err (failure.Refused ManyCues)) = 8 < length (committed_cues es)
  TellsViews cells (Err (failure.Refused ListShort)) =
      (length (committed_cues es) ≤ 8) × (cells < length (committed_cues es))
  TellsViews cells _ = ⊥

module _ {K : Type 0} (parsed : List ℕ → Option K) (places : ℕ) (es : List (Entry K)) where
  -- to read in the sheet gives the answer r, with some entries that it leaves
  abbrev pub AnswersSheet : List ℕ → Result ℕ ReadFault → Type 0
  AnswersSheet sheet r =
      (left : List (Entry K))
      × ReadsIn parsed places es sheet (record { answer = r; entries = left })

  -- to a call that reads in the sheet
  abbrev pub TellsSheet : List ℕ → Result Answer Failure → Type 0
  TellsSheet sheet (Ok (answer.Lines n)) = AnswersSheet sheet (Ok n)
  TellsSheet sheet (Err (failure.Fault f)) = AnswersSheet sheet (Err f)
  TellsSheet sheet _ = ⊥

module _ {K : Type 0} (s : State K) (n : ℕ) where
  -- a ticket is held by the number n, and so it is for its cue
  pub record IsHeldBy (IsSo : ℕ → Type 0) : Type 0 where
    pub ticket : Ticket
    pub held : ticket_at s.tickets n ≡ Some ticket
    pub so : IsSo ticket.cue

  -- or none is, and that is the answer
  abbrev pub Through : (ℕ → Type 0) → Result Answer Failure → Type 0
  Through IsSo a =
      IsHeldBy IsSo ⊎ ((ticket_at s.tickets n ≡ None) × (a ≡ Err failure.NoTicket))

-- for so many calls, the cells for answers first
abbrev pub TellsWant : (calls answers cells : ℕ) → Result (Unit {0}) Want → Type 0
TellsWant calls answers cells (Ok x) = (calls ≤ answers) × (calls ≤ cells)
TellsWant calls answers cells (Err want.Answers) = answers < calls
TellsWant calls answers cells (Err want.Tickets) = (calls ≤ answers) × (cells < calls)

abbrev pub WantIsTold : Type 0
WantIsTold =
    (calls answers cells : ℕ) (r : Result (Unit {0}) Want) →
    TellsWant calls answers cells r ↔ (r ≡ wanted calls answers cells)

-- each cue is from 1 to 64, after a commit or an abort its cue has no entry, and there are no more
-- entries than places
pub record IsBook {K : Type 0} (places : ℕ) (es : List (Entry K)) : Type 0 where
  pub cues : (p : ℕ) (e : Entry K) → entry_at es p ≡ Some e → IsCue e.cue
  pub endings :
      (p q : ℕ) (d e : Entry K) → p < q → entry_at es p ≡ Some d → entry_at es q ≡ Some e →
      (d.act ≡ Commit) ⊎ (d.act ≡ Abort) → d.cue ≢ e.cue
  pub fits : length es ≤ places

-- a ticket is found by its number, the first by 1, and by a number that was not given there is none
pub record TicketsAreNumbered : Type 0 where
  pub none : (ts : List (Option Ticket)) → ticket_at ts 0 ≡ None
  pub past : (ts : List (Option Ticket)) (k : ℕ) → length ts < k → ticket_at ts k ≡ None
  pub given :
      (ts : List (Option Ticket)) (k : ℕ) (t : Option Ticket) → slice_get ts k ≡ Some t →
      ticket_at ts (suc k) ≡ t

abbrev pub ShowsOrder : List ℕ → Result Answer Failure → Type 0
ShowsOrder o (Ok (answer.Order c)) = cues_of c ≡ o
ShowsOrder o _ = ⊥

abbrev pub ShowsCycle : Result Answer Failure → Type 0
ShowsCycle (Ok (answer.Cycle c)) = Unit {0}
ShowsCycle _ = ⊥

abbrev pub ShowsView : Option (List ℕ) → Result Answer Failure → Type 0
ShowsView (Some o) (Ok (answer.Views (Some c))) = cues_of c ≡ o
ShowsView None (Ok (answer.Views None)) = Unit {0}
ShowsView _ _ = ⊥

module _ (K : Type 0) where
  -- what is so far after a call is what its answer says
  abbrev pub StateIsAsAnswered : Type 0
  StateIsAsAnswered =
      (alike : K → K → Bool) (parsed : List ℕ → Option K) (places : ℕ) (s : State K) (c : Call K)
      (a : Result Answer Failure) →
      Right alike parsed places s c a → LeavesState parsed places s c a (after parsed places s c)

  -- what is right to answer to these calls is what is told
  pub record RightIsTold : Type 0 where
    pub enter :
        (alike : K → K → Bool) (parsed : List ℕ → Option K) (places : ℕ) (s : State K)
        (e : Entry K) (a : Result Answer Failure) →
        Right alike parsed places s (call.Enter e) a ↔ TellsPlace places s e.cue a
    pub begin :
        (alike : K → K → Bool) (parsed : List ℕ → Option K) (places : ℕ) (s : State K) (n : ℕ)
        (a : Result Answer Failure) →
        Right alike parsed places s (call.Begin n) a ↔ TellsTicket places s n a
    pub step :
        (alike : K → K → Bool) (parsed : List ℕ → Option K) (places : ℕ) (s : State K) (n : ℕ)
        (step : Step K) (a : Result Answer Failure) →
        Right alike parsed places s (call.Record n step) a
        ↔ Through s n (λ cue. TellsPlace places s cue a) a
    pub end :
        (alike : K → K → Bool) (parsed : List ℕ → Option K) (places : ℕ) (s : State K) (n : ℕ)
        (ending : Ending) (a : Result Answer Failure) →
        Right alike parsed places s (call.End n ending) a
        ↔ Through s n (λ cue. TellsReceipt places s cue ending a) a

  -- and so it is with the questions, with views where being alike is an equivalence; and with a
  -- sheet, of which StateIsAsAnswered tells what it leaves
  pub record QuestionsAreTold : Type 0 where
    pub class :
        (alike : K → K → Bool) (parsed : List ℕ → Option K) (places : ℕ) (s : State K)
        (a : Result Answer Failure) →
        Right alike parsed places s call.Class a ↔ TellsClass alike s.entries a
    pub why :
        (alike : K → K → Bool) (parsed : List ℕ → Option K) (places : ℕ) (s : State K) (i j : ℕ)
        (a : Result Answer Failure) →
        Right alike parsed places s (call.Why i j) a ↔ TellsWhy alike s.entries i j a
    pub order :
        (alike : K → K → Bool) (parsed : List ℕ → Option K) (places : ℕ) (s : State K)
        (cells bytes : ℕ) (a : Result Answer Failure) →
        Right alike parsed places s (call.Order cells bytes) a
        ↔ TellsOrder alike s.entries cells bytes a
    pub views :
        (alike : K → K → Bool) → Sameness alike →
        (parsed : List ℕ → Option K) (places : ℕ) (s : State K) (cells : ℕ)
        (a : Result Answer Failure) →
        Right alike parsed places s (call.Views cells) a ↔ TellsViews alike s.entries cells a
    pub sheet :
        (alike : K → K → Bool) (parsed : List ℕ → Option K) (places : ℕ) (s : State K)
        (sheet : Bor (List ℕ)) (a : Result Answer Failure) →
        Right alike parsed places s (call.ReadIn sheet) a
        ↔ TellsSheet parsed places s.entries sheet.now a

  -- the answers of a run are right when there is one for each call, and each is about what was so
  -- far after the calls before it
  pub record AreRight (alike : K → K → Bool) (parsed : List ℕ → Option K) (places : ℕ)
      (s : State K) (calls : List (Call K)) (answers : List (Result Answer Failure)) : Type 0 where
    pub size : length answers ≡ length calls
    pub each :
        (i : ℕ) (c : Call K) (a : Result Answer Failure) →
        slice_get calls i ≡ Some c → slice_get answers i ≡ Some a →
        Right alike parsed places (after_all parsed places s (take i calls)) c a

  abbrev pub AllRightIsTold : Type 0
  AllRightIsTold =
      (alike : K → K → Bool) (parsed : List ℕ → Option K) (places : ℕ) (s : State K)
      (calls : List (Call K)) (answers : List (Result Answer Failure)) →
      AllRight alike parsed places s calls answers ↔ AreRight alike parsed places s calls answers

  -- without a call nothing changes, and a call more goes on from what the calls before it left
  pub record RunsGoOn : Type 0 where
    pub none :
        (parsed : List ℕ → Option K) (places : ℕ) (s : State K) →
        after_all parsed places s [] ≡ s
    pub more :
        (parsed : List ℕ → Option K) (places : ℕ) (s : State K) (calls : List (Call K))
        (c : Call K) →
        after_all parsed places s (calls ++ c ∷ [])
        ≡ after parsed places (after_all parsed places s calls) c

  -- whatever is called
  abbrev pub RunsMakeBooks : Type 0
  RunsMakeBooks =
      (parsed : List ℕ → Option K) (places : ℕ) (calls : List (Call K)) →
      IsBook places (after_all parsed places start calls).entries

  -- two right answers agree, but that another cycle may be shown
  pub record OrdersAgree : Type 0 where
    pub refused :
        (alike : K → K → Bool) (es : List (Entry K)) (cells bytes : ℕ) (f : Failure)
        (a : Result Answer Failure) →
        IsOrderAnswer alike es cells bytes (Err f) → IsOrderAnswer alike es cells bytes a →
        a ≡ Err f
    pub order :
        (alike : K → K → Bool) (es : List (Entry K)) (cells bytes : ℕ) (c : Cues)
        (a : Result Answer Failure) →
        IsOrderAnswer alike es cells bytes (Ok (answer.Order c)) →
        IsOrderAnswer alike es cells bytes a → ShowsOrder (cues_of c) a
    pub cycle :
        (alike : K → K → Bool) (es : List (Entry K)) (cells bytes : ℕ) (c : Cues)
        (a : Result Answer Failure) →
        IsOrderAnswer alike es cells bytes (Ok (answer.Cycle c)) →
        IsOrderAnswer alike es cells bytes a → ShowsCycle a

  pub record ViewsAgree : Type 0 where
    pub refused :
        (alike : K → K → Bool) (es : List (Entry K)) (cells : ℕ) (f : Failure)
        (a : Result Answer Failure) →
        IsViewsAnswer alike es cells (Err f) → IsViewsAnswer alike es cells a → a ≡ Err f
    pub order :
        (alike : K → K → Bool) (es : List (Entry K)) (cells : ℕ) (c : Cues)
        (a : Result Answer Failure) →
        IsViewsAnswer alike es cells (Ok (answer.Views (Some c))) →
        IsViewsAnswer alike es cells a → ShowsView (Some (cues_of c)) a
    pub none :
        (alike : K → K → Bool) (es : List (Entry K)) (cells : ℕ) (a : Result Answer Failure) →
        IsViewsAnswer alike es cells (Ok (answer.Views None)) →
        IsViewsAnswer alike es cells a → ShowsView None a
