-- Whatever is called, the entries are those of a book.
use Rattle.std.proofs.Common.{◌≡◌, ℕ, zero, suc, ◌+◌, ◌<◌, ◌⊎◌, List, [], ◌∷◌, ◌++◌, length, Some, None, Ok, Err, Option, Result, sym, refl, ap, ◌∙◌, subst, inl, inr, append-nil, arith}
use Rattle.std.specs.List.{slice_get}
use Rattle.std.proofs.lemmas.List.{length_push}
use Rattle.std.proofs.lemmas.Option.{slice_get_within}
use Rattle.refusals.specs.declared.Refusal.{Refusal}
use Rattle.refusals.specs.declared.Layer.{Layer}
use Rattle.history.specs.declared.Act.{Act}
use Rattle.history.specs.declared.Act.TheVariants.{Commit, Abort}
use Rattle.history.specs.declared.Entry.{Entry}
use Rattle.history.specs.Endings.{act_of}
use Rattle.history.specs.Places.{IsCue, entry_at, DidBefore}
use Rattle.history.proofs.Places.{entry_is}
use Rattle.book.specs.declared.tickets.Ticket.{Ticket}
use Rattle.book.specs.Entering.{entered}
use Rattle.book.specs.Entered.{IsFree}
use Rattle.history.specs.Cues.{HasEnded}
use Rattle.book.specs.Reading.{line_entered, lines_of, step, read_from}
use Rattle.book.specs.Tickets.{stepped, under}
use Rattle.book.proofs.Entered.{entering_is_told_lem}
use Rattle.book.proofs.Growing.{push_cases}
use Rattle.book.proofs.ReadsIn.{line_accepted}
use Rattle.runs.specs.declared.Call.{Call}
use Rattle.runs.specs.declared.Call.TheVariants as call
use Rattle.runs.specs.Runs.{State, start, ticket_at, one, one_under, after, after_all}
use Rattle.runs.specs.Laws.{IsBook, RunsMakeBooks}
use Rattle.runs.proofs.Doing.{read_front}

module _ {K : Type 0} (places : ℕ) where
  no_book : IsBook {K = K} places []
  no_book = record { cues = cues; endings = endings; fits = omega arith }
    where
      cues : (p : ℕ) (e : Entry K) → entry_at {K = K} [] p ≡ Some e → IsCue e.cue
      cues zero e h = cc
      cues (suc i) e h = cc

      endings : (p q : ℕ) (d e : Entry K) → p < q → entry_at {K = K} [] p ≡ Some d → entry_at {K = K} [] q ≡ Some e → (d.act ≡ Commit) ⊎ (d.act ≡ Abort) → d.cue ≡ e.cue → ⊥
      endings zero q d e l h k done same = cc
      endings (suc i) q d e l h k done same = cc

  -- one entry more, which is accepted
  module _ (es : List (Entry K)) (e : Entry K) (p : ℕ) (book : IsBook places es) (free : IsFree places es e.cue p) where
    more_cues : (q : ℕ) (d : Entry K) → entry_at (es ++ e ∷ []) q ≡ Some d → IsCue d.cue
    more_cues zero d h = cc
    more_cues (suc i) d h =
        elim (push_cases es e i d h) [
          | inl old ↦ book.cues (suc i) d old
          | inr new ↦ subst (λ (x : Entry K). IsCue x.cue) new.1 free.cue
        ]

    -- the last entry is of a cue that has not ended
    ended_before_it : (i : ℕ) (d : Entry K) → slice_get es i ≡ Some d → d.cue ≡ e.cue → (a : Act K) → d.act ≡ a → DidBefore es (suc (length es)) e.cue a
    ended_before_it i d h same a is =
        record {
          cue = free.cue;
          place = suc i;
          before = omega (arith, slice_get_within es i d h);
          entry = entry_is es (suc i) e.cue a d h same is;
        }

    it_ended : (i : ℕ) (d : Entry K) → slice_get es i ≡ Some d → d.cue ≡ e.cue → (d.act ≡ Commit) ⊎ (d.act ≡ Abort) → HasEnded es e.cue
    it_ended i d h same (inl c) = inl (ended_before_it i d h same Commit c)
    it_ended i d h same (inr a) = inr (ended_before_it i d h same Abort a)

    more_endings : (q r : ℕ) (d x : Entry K) → q < r → entry_at (es ++ e ∷ []) q ≡ Some d → entry_at (es ++ e ∷ []) r ≡ Some x → (d.act ≡ Commit) ⊎ (d.act ≡ Abort) → d.cue ≡ x.cue → ⊥
    more_endings zero r d x l h k done same = cc
    more_endings (suc i) zero d x l h k done same = cc
    more_endings (suc i) (suc j) d x l h k done same =
        elim (push_cases es e i d h) [
          | inr new ↦ beyond new.0
          | inl old ↦ elim (push_cases es e j x k) [
            | inl was ↦ book.endings (suc i) (suc j) d x l old was done same
            | inr it ↦ free.unended (it_ended i d old (same ∙ sym (ap (λ (y : Entry K). y.cue) it.1)) done)
          ]
        ]
      where
        beyond : i ≡ length es → ⊥
        beyond at = let within = slice_get_within (es ++ e ∷ []) j x k in omega (arith, within, length_push es e)

    more_book : IsBook places (es ++ e ∷ [])
    more_book = record { cues = more_cues; endings = more_endings; fits = omega (arith, length_push es e, free.fits) }

  book_more : (es : List (Entry K)) (e : Entry K) (p : ℕ) → IsBook places es → entered places es e.cue ≡ Ok p → IsBook places (es ++ e ∷ [])
  book_more es e p book is = more_book es e p book ((entering_is_told_lem K places es e.cue (Ok p)).1 (sym is))

  book_one : (es : List (Entry K)) (e : Entry K) (r : Result ℕ Refusal) → IsBook places es → entered places es e.cue ≡ r → IsBook places (es ++ one e r)
  book_one es e (Ok p) book is = book_more es e p book is
  book_one es e (Err f) book is = subst (IsBook places) (sym (append-nil es)) book

  module _ (parsed : List ℕ → Option K) where
    -- each line of a sheet is accepted after those before it
    book_read : (n : ℕ) (es : List (Entry K)) (ls : List (List ℕ)) → IsBook places es → IsBook places (read_from parsed places n es ls).entries
    book_read n es [] book = book
    book_read n es (l ∷ ls) book = go (λ e more. book_read (n + 1) (es ++ e ∷ []) ls more) (line_entered parsed places es l) refl
      where
        go : ((e : Entry K) → IsBook places (es ++ e ∷ []) → IsBook places (read_from parsed places (n + 1) (es ++ e ∷ []) ls).entries) → (r : Result (Entry K) Layer) → line_entered parsed places es l ≡ r → IsBook places (step parsed n es (λ e. read_from parsed places (n + 1) (es ++ e ∷ []) ls) r).entries
        go onward (Ok e) is =
            onward e (book_more es e (length es + 1) book (line_accepted parsed places es l e is))
        go onward (Err f) is = book

    book_under : (es : List (Entry K)) (a : Act K) (o : Option Ticket) → IsBook places es → IsBook places (es ++ one_under (λ t. one (under t a) (entered places es t.cue)) o)
    book_under es a None book = subst (IsBook places) (sym (append-nil es)) book
    book_under es a (Some t) book = book_one es (under t a) (entered places es t.cue) book refl

    book_after : (s : State K) (c : Call K) → IsBook places s.entries → IsBook places (after parsed places s c).entries
    book_after s (call.Enter e) book = book_one s.entries e (entered places s.entries e.cue) book refl
    book_after s (call.ReadIn sheet) book =
        subst (IsBook places) (read_front parsed places s.entries sheet.now) (book_read 0 s.entries (lines_of sheet.now) book)
    book_after s (call.Record n step) book = book_under s.entries (stepped step) (ticket_at s.tickets n) book
    book_after s (call.End n d) book = book_under s.entries (act_of d) (ticket_at s.tickets n) book
    book_after s _ book = subst (IsBook places) (sym (append-nil s.entries)) book

    book_all : (s : State K) (calls : List (Call K)) → IsBook places s.entries → IsBook places (after_all parsed places s calls).entries
    book_all s [] book = book
    book_all s (c ∷ cs) book = book_all (after parsed places s c) cs (book_after s c book)

pub runs_make_books : (K : Type 0) → RunsMakeBooks K
runs_make_books K parsed places calls = book_all places parsed start calls (no_book places)
