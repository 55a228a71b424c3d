-- What is right to answer to a question, and to a sheet, is what is told.
use Rattle.std.proofs.Common.{◌≡◌, ℕ, ◌<◌, ◌≤◌, Bool, true, false, cond, ltb, List, length, Some, None, Ok, Err, Option, Result, sym, refl, ap, subst}
use Rattle.std.proofs.lemmas.Bool.{lt-ltb, le-ltb, ltb-true, ltb-false}
use Rattle.refusals.specs.declared.Refusal.{Refusal}
use Rattle.refusals.specs.declared.Refusal.TheVariants.{ManyCues, ListShort, StripShort}
use Rattle.history.specs.declared.Entry.{Entry}
use Rattle.history.specs.Order.{committed_cues}
use Rattle.recovery.specs.declared.Class.{Class}
use Rattle.recovery.specs.Classes.{class_of}
use Rattle.recovery.specs.ReadsFrom.{IsClass}
use Rattle.recovery.proofs.ByPlaces.{class_is_by_places}
use Rattle.equivalence.specs.Laws.{Sameness}
use Rattle.equivalence.proofs.OneAnswer.{one_answer}
use Rattle.serial.specs.declared.Pair.{Pair}
use Rattle.serial.specs.OrderAnswer.{order_refusal}
use Rattle.serial.specs.Why.{why_answer, Tells}
use Rattle.serial.proofs.FirstPair.{why_is_told_lem}
use Rattle.views.specs.Answer.{views_refusal}
use Rattle.book.specs.declared.sheets.ReadFault.{ReadFault}
use Rattle.book.specs.Reading.{Taken, read_in}
use Rattle.book.specs.ReadsIn.{ReadsIn}
use Rattle.book.proofs.ReadsIn.{reads_in_lem, reads_by, reads_in_only}
use Rattle.runs.specs.declared.Answer.{Answer}
use Rattle.runs.specs.declared.Answer.TheVariants as answer
use Rattle.runs.specs.declared.Failure.{Failure}
use Rattle.runs.specs.declared.Failure.TheVariants as failure
use Rattle.runs.specs.Answers.{cues_of, IsOrderAnswer, IsViewsAnswer}
use Rattle.runs.specs.Runs.{lines_or, why_or}
use Rattle.runs.specs.Laws.{TellsClass, TellsWhy, IsEnough, TellsOrder, IsFew, TellsViews, AnswersSheet, TellsSheet, QuestionsAreTold}

module _ {K : Type 0} (alike : K → K → Bool) (es : List (Entry K)) where
  class_told : (a : Result Answer Failure) → (a ≡ Ok (answer.Class (class_of alike es))) × IsClass alike es (class_of alike es) → TellsClass alike es a
  class_told a h = subst (TellsClass alike es) (sym h.0) h.1

  told_class : (a : Result Answer Failure) → TellsClass alike es a → (a ≡ Ok (answer.Class (class_of alike es))) × IsClass alike es (class_of alike es)
  told_class (Ok (answer.Class c)) h =
      let same = (class_is_by_places K alike es c).0 h in
      (ap (λ (d : Class). Ok (answer.Class d)) same, subst (IsClass alike es) same h)
  told_class (Ok _) h = absurd h
  told_class (Err f) h = absurd h

  module _ (i j : ℕ) where
    why_to : (r : Result (Option Pair) Refusal) → Tells alike es i j r → TellsWhy alike es i j (why_or r)
    why_to (Ok w) h = h
    why_to (Err f) h = h

    why_told : (a : Result Answer Failure) → (a ≡ why_or (why_answer alike es i j)) × Tells alike es i j (why_answer alike es i j) → TellsWhy alike es i j a
    why_told a h = subst (TellsWhy alike es i j) (sym h.0) (why_to (why_answer alike es i j) h.1)

    why_from : (r : Result (Option Pair) Refusal) → Tells alike es i j r → (why_or r ≡ why_or (why_answer alike es i j)) × Tells alike es i j (why_answer alike es i j)
    why_from r h =
        let same = (why_is_told_lem K alike es i j r).0 h in
        (ap why_or same, subst (Tells alike es i j) same h)

    told_why : (a : Result Answer Failure) → TellsWhy alike es i j a → (a ≡ why_or (why_answer alike es i j)) × Tells alike es i j (why_answer alike es i j)
    told_why (Ok (answer.Why w)) h = why_from (Ok w) h
    told_why (Err (failure.Refused f)) h = why_from (Err f) h
    told_why (Ok _) h = absurd h
    told_why (Err _) h = absurd h

-- a refusal by what is lent, where so many cues are committed
module _ (many cells bytes : ℕ) where
  abbrev refusal : (short few : Bool) → Option Refusal
  refusal short few = cond short (Some StripShort) (cond few (Some ListShort) None)

  abbrev TellsRefusal : Option Refusal → Type 0
  TellsRefusal None = (64 ≤ bytes) × (many ≤ cells)
  TellsRefusal (Some StripShort) = bytes < 64
  TellsRefusal (Some ListShort) = (64 ≤ bytes) × (cells < many)
  TellsRefusal (Some _) = ⊥

  refusal_by : (a b : Bool) → ltb bytes 64 ≡ a → ltb cells many ≡ b → TellsRefusal (refusal a b)
  refusal_by true b short few = ltb-true bytes 64 short
  refusal_by false true short few = (ltb-false bytes 64 short, ltb-true cells many few)
  refusal_by false false short few = (ltb-false bytes 64 short, ltb-false cells many few)

  refusal_told : (o : Option Refusal) → refusal (ltb bytes 64) (ltb cells many) ≡ o → TellsRefusal o
  refusal_told o h = subst TellsRefusal h (refusal_by (ltb bytes 64) (ltb cells many) refl refl)

  refusal_is : (a b : Bool) → ltb bytes 64 ≡ a → ltb cells many ≡ b → refusal (ltb bytes 64) (ltb cells many) ≡ refusal a b
  refusal_is a b short few = (λ i. refusal (short i) (few i))

  told_refusal : (o : Option Refusal) → TellsRefusal o → refusal (ltb bytes 64) (ltb cells many) ≡ o
  told_refusal None h = refusal_is false false (le-ltb bytes 64 h.0) (le-ltb cells many h.1)
  told_refusal (Some StripShort) h = refusal_is true (ltb cells many) (lt-ltb bytes 64 h) refl
  told_refusal (Some ListShort) h = refusal_is false true (le-ltb bytes 64 h.0) (lt-ltb cells many h.1)
  told_refusal (Some _) h = absurd h

-- the same of views
module _ (many cells : ℕ) where
  abbrev views_refusal_in : (more few : Bool) → Option Refusal
  views_refusal_in more few = cond more (Some ManyCues) (cond few (Some ListShort) None)

  abbrev TellsViewsRefusal : Option Refusal → Type 0
  TellsViewsRefusal None = (many ≤ 8) × (many ≤ cells)
  TellsViewsRefusal (Some ManyCues) = 8 < many
  TellsViewsRefusal (Some ListShort) = (many ≤ 8) × (cells < many)
  TellsViewsRefusal (Some _) = ⊥

  views_refusal_by : (a b : Bool) → ltb 8 many ≡ a → ltb cells many ≡ b → TellsViewsRefusal (views_refusal_in a b)
  views_refusal_by true b more few = ltb-true 8 many more
  views_refusal_by false true more few = (ltb-false 8 many more, ltb-true cells many few)
  views_refusal_by false false more few = (ltb-false 8 many more, ltb-false cells many few)

  views_refusal_told : (o : Option Refusal) → views_refusal_in (ltb 8 many) (ltb cells many) ≡ o → TellsViewsRefusal o
  views_refusal_told o h = subst TellsViewsRefusal h (views_refusal_by (ltb 8 many) (ltb cells many) refl refl)

  views_refusal_is : (a b : Bool) → ltb 8 many ≡ a → ltb cells many ≡ b → views_refusal_in (ltb 8 many) (ltb cells many) ≡ views_refusal_in a b
  views_refusal_is a b more few = (λ i. views_refusal_in (more i) (few i))

  told_views_refusal : (o : Option Refusal) → TellsViewsRefusal o → views_refusal_in (ltb 8 many) (ltb cells many) ≡ o
  told_views_refusal None h = views_refusal_is false false (le-ltb 8 many h.0) (le-ltb cells many h.1)
  told_views_refusal (Some ManyCues) h = views_refusal_is true (ltb cells many) (lt-ltb 8 many h) refl
  told_views_refusal (Some ListShort) h = views_refusal_is false true (le-ltb 8 many h.0) (lt-ltb cells many h.1)
  told_views_refusal (Some _) h = absurd h

module _ {K : Type 0} (alike : K → K → Bool) (es : List (Entry K)) (cells bytes : ℕ) where
  enough : order_refusal es cells bytes ≡ None → IsEnough es cells bytes
  enough h =
      let t = refusal_told (length (committed_cues es)) cells bytes None h in
      record { strip = t.0; list = t.1 }

  taken : IsEnough es cells bytes → order_refusal es cells bytes ≡ None
  taken h = told_refusal (length (committed_cues es)) cells bytes None (h.strip, h.list)

  refused_told : (f : Refusal) → TellsRefusal (length (committed_cues es)) cells bytes (Some f) → TellsOrder alike es cells bytes (Err (failure.Refused f))
  refused_told StripShort h = h
  refused_told ListShort h = h
  refused_told _ h = absurd h

  told_refused : (f : Refusal) → TellsOrder alike es cells bytes (Err (failure.Refused f)) → TellsRefusal (length (committed_cues es)) cells bytes (Some f)
  told_refused StripShort h = h
  told_refused ListShort h = h
  told_refused _ h = absurd h

  order_told : (a : Result Answer Failure) → IsOrderAnswer alike es cells bytes a → TellsOrder alike es cells bytes a
  order_told (Ok (answer.Order c)) h = (enough h.taken, h.right, h.view)
  order_told (Ok (answer.Cycle c)) h = (enough h.taken, h.right)
  order_told (Err (failure.Refused f)) h = refused_told f (refusal_told (length (committed_cues es)) cells bytes (Some f) h)
  order_told _ h = absurd h

  told_order : (a : Result Answer Failure) → TellsOrder alike es cells bytes a → IsOrderAnswer alike es cells bytes a
  told_order (Ok (answer.Order c)) h =
      let one = one_answer K in
      record { taken = taken h.0; order = (one.order alike es (cues_of c)).0 h.1; right = h.1; view = h.2 }
  told_order (Ok (answer.Cycle c)) h =
      let one = one_answer K in
      let none = (one.cycle alike es (cues_of c)).0 h.1 in
      record { taken = taken h.0; order = none.0; right = h.1; view = tt }
  told_order (Err (failure.Refused f)) h = told_refusal (length (committed_cues es)) cells bytes (Some f) (told_refused f h)
  told_order _ h = absurd h

module _ {K : Type 0} (alike : K → K → Bool) (es : List (Entry K)) (cells : ℕ) where
  few : views_refusal es cells ≡ None → IsFew es cells
  few h =
      let t = views_refusal_told (length (committed_cues es)) cells None h in
      record { cues = t.0; list = t.1 }

  views_taken : IsFew es cells → views_refusal es cells ≡ None
  views_taken h = told_views_refusal (length (committed_cues es)) cells None (h.cues, h.list)

  views_refused_told : (f : Refusal) → TellsViewsRefusal (length (committed_cues es)) cells (Some f) → TellsViews alike es cells (Err (failure.Refused f))
  views_refused_told ManyCues h = h
  views_refused_told ListShort h = h
  views_refused_told _ h = absurd h

  told_views_refused : (f : Refusal) → TellsViews alike es cells (Err (failure.Refused f)) → TellsViewsRefusal (length (committed_cues es)) cells (Some f)
  told_views_refused ManyCues h = h
  told_views_refused ListShort h = h
  told_views_refused _ h = absurd h

  views_told : (a : Result Answer Failure) → IsViewsAnswer alike es cells a → TellsViews alike es cells a
  views_told (Ok (answer.Views (Some c))) h = (few h.taken, h.right)
  views_told (Ok (answer.Views None)) h = (few h.taken, h.right)
  views_told (Err (failure.Refused f)) h = views_refused_told f (views_refusal_told (length (committed_cues es)) cells (Some f) h)
  views_told _ h = absurd h

  told_views : Sameness alike → (a : Result Answer Failure) → TellsViews alike es cells a → IsViewsAnswer alike es cells a
  told_views same (Ok (answer.Views (Some c))) h =
      let one = one_answer K in
      record { taken = views_taken h.0; order = (one.views alike same es (Some (cues_of c))).0 h.1; right = h.1 }
  told_views same (Ok (answer.Views None)) h =
      let one = one_answer K in
      record { taken = views_taken h.0; order = (one.views alike same es None).0 h.1; right = h.1 }
  told_views same (Err (failure.Refused f)) h = told_views_refusal (length (committed_cues es)) cells (Some f) (told_views_refused f h)
  told_views same _ h = absurd h

module _ {K : Type 0} (parsed : List ℕ → Option K) (places : ℕ) (es : List (Entry K)) (sheet : List ℕ) where
  abbrev IsRead : Result Answer Failure → Type 0
  IsRead a = (a ≡ lines_or (read_in parsed places es sheet).answer) × ReadsIn parsed places es sheet (read_in parsed places es sheet)

  sheet_to : (r : Result ℕ ReadFault) → (read_in parsed places es sheet).answer ≡ r → TellsSheet parsed places es sheet (lines_or r)
  sheet_to (Ok n) is = ((read_in parsed places es sheet).entries, reads_by parsed places es sheet (Ok n) (read_in parsed places es sheet).entries (sym is) refl)
  sheet_to (Err f) is = ((read_in parsed places es sheet).entries, reads_by parsed places es sheet (Err f) (read_in parsed places es sheet).entries (sym is) refl)

  sheet_told : (a : Result Answer Failure) → IsRead a → TellsSheet parsed places es sheet a
  sheet_told a h = subst (TellsSheet parsed places es sheet) (sym h.0) (sheet_to (read_in parsed places es sheet).answer refl)

  sheet_from : (r : Result ℕ ReadFault) → AnswersSheet parsed places es sheet r → IsRead (lines_or r)
  sheet_from r h =
      let only = reads_in_only parsed places es sheet (record { answer = r; entries = h.0 }) h.1 in
      (ap (λ (t : Taken K). lines_or t.answer) only, reads_in_lem parsed places es sheet)

  told_sheet : (a : Result Answer Failure) → TellsSheet parsed places es sheet a → IsRead a
  told_sheet (Ok (answer.Lines n)) h = sheet_from (Ok n) h
  told_sheet (Err (failure.Fault f)) h = sheet_from (Err f) h
  told_sheet (Ok _) h = absurd h
  told_sheet (Err _) h = absurd h

pub questions_are_told : (K : Type 0) → QuestionsAreTold K
questions_are_told K =
    record {
      class = λ alike parsed places s a. (class_told alike s.entries a, told_class alike s.entries a);
      why = λ alike parsed places s i j a. (why_told alike s.entries i j a, told_why alike s.entries i j a);
      order = λ alike parsed places s cells bytes a. (order_told alike s.entries cells bytes a, told_order alike s.entries cells bytes a);
      views = λ alike same parsed places s cells a. (views_told alike s.entries cells a, told_views alike s.entries cells same a);
      sheet = λ alike parsed places s sheet a. (sheet_told parsed places s.entries sheet.now a, told_sheet parsed places s.entries sheet.now a);
    }
