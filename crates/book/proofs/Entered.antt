-- What is entered, begun and closed is what is told.
use Rattle.std.proofs.Common.{inl, inr, ◌≡◌, ℕ, zero, suc, ◌+◌, ◌≤◌, Bool, true, false, cond, not, leb, List, [], ◌∷◌, ◌++◌, length, Ok, Err, Result, sym, refl, ap, ◌∙◌, subst, arith}
use Rattle.std.proofs.lemmas.List.{length_push}
use Rattle.std.proofs.lemmas.Bool.{both_ways, leb-false, leb-true, le-leb}
use Rattle.refusals.specs.declared.Refusal.{Refusal}
use Rattle.refusals.specs.declared.Refusal.TheVariants.{NoSuchCue, CueEnded, BookFull, CueEntered}
use Rattle.history.specs.declared.Ending.{Ending}
use Rattle.history.specs.declared.Entry.{Entry}
use Rattle.history.specs.Entries.{is_cue, acted, ended}
use Rattle.history.specs.Places.{entry_at}
use Rattle.history.specs.Cues.{HasEnded}
use Rattle.history.proofs.Places.{cue_is, is_of_cue}
use Rattle.history.proofs.Cues.{entry_to, entry_from, end_to, end_from}
use Rattle.book.specs.declared.tickets.Ticket.{Ticket}
use Rattle.book.specs.declared.tickets.Receipt.{Receipt}
use Rattle.book.specs.Entering.{entered, grown}
use Rattle.book.specs.Tickets.{begun, closed}
use Rattle.book.specs.Entered.{IsEntered, HasOneMore, IsGrown, IsBegun, IsClosed}
use Rattle.book.specs.Entered.{EnteringIsTold, GrowingIsTold, EnteredStands, BeginningIsTold, ClosingIsTold}
use Rattle.book.proofs.Entering.{entered_free}
use Rattle.book.proofs.Growing.{push_same, push_last, push_only}

-- a test that fails where the fact does
fails : (t : Bool) → (t ≡ true → ⊥) → t ≡ false
fails true f = absurd (f refl)
fails false f = refl

never : (t : Bool) → t ≡ false → t ≡ true → ⊥
never t h k = both_ways t h k

module _ {K : Type 0} (places : ℕ) (es : List (Entry K)) (n : ℕ) where
  entered_by : (a b c : Bool) → is_cue n ≡ a → ended es n ≡ b → leb places (length es) ≡ c → IsEntered places es n (cond (not a) (Err NoSuchCue) (cond b (Err CueEnded) (cond c (Err BookFull) (Ok (length es + 1)))))
  entered_by false b c cue end full = λ is. never (is_cue n) cue (is_of_cue n is)
  entered_by true true c cue end full = end_to es n end
  entered_by true false true cue end full = (cue_is n cue, λ is. never (ended es n) end (end_from es n is), leb-true places (length es) full)
  entered_by true false false cue end full =
      record { cue = cue_is n cue; unended = λ is. never (ended es n) end (end_from es n is); fits = leb-false places (length es) full; next = refl }

  pub entered_is : IsEntered places es n (entered places es n)
  entered_is = entered_by (is_cue n) (ended es n) (leb places (length es)) refl refl refl

  entered_to : (a b c : Bool) → is_cue n ≡ a → ended es n ≡ b → leb places (length es) ≡ c → cond (not a) (Err NoSuchCue) (cond b (Err CueEnded) (cond c (Err BookFull) (Ok (length es + 1)))) ≡ entered places es n
  entered_to a b c cue end full = sym (λ i. cond (not (cue i)) (Err NoSuchCue) (cond (end i) (Err CueEnded) (cond (full i) (Err BookFull) (Ok (length es + 1)))))

  unended_is : (HasEnded es n → ⊥) → ended es n ≡ false
  unended_is f = fails (ended es n) (λ h. f (end_to es n h))

  ended_cue : HasEnded es n → is_cue n ≡ true
  ended_cue (inl d) = is_of_cue n d.cue
  ended_cue (inr d) = is_of_cue n d.cue

  is_entered : (r : Result ℕ Refusal) → IsEntered places es n r → r ≡ entered places es n
  is_entered (Ok p) h =
      ap Ok h.next
      ∙ entered_to true false false (is_of_cue n h.cue) (unended_is h.unended) (fails (leb places (length es)) (λ l. absurd (let k = leb-true places (length es) l in let fits = h.fits in omega arith)))
  is_entered (Err NoSuchCue) h = entered_to false (ended es n) (leb places (length es)) (fails (is_cue n) (λ c. h (cue_is n c))) refl refl
  is_entered (Err CueEnded) h = entered_to true true (leb places (length es)) (ended_cue h) (end_from es n h) refl
  is_entered (Err BookFull) h = entered_to true false true (is_of_cue n h.0) (unended_is h.1) (le-leb places (length es) h.2)
  is_entered (Err _) h = absurd h

pub entering_is_told_lem : (K : Type 0) → EnteringIsTold K
entering_is_told_lem K places es n r = (λ h. is_entered places es n r h, λ e. subst (IsEntered places es n) (sym e) (entered_is places es n))

module _ {K : Type 0} (es : List (Entry K)) (e : Entry K) where
  one_more : HasOneMore es e (es ++ e ∷ [])
  one_more = record { size = length_push es e ∙ omega arith; same = same; last = push_last es e }
    where
      same : (p : ℕ) → p ≤ length es → entry_at (es ++ e ∷ []) p ≡ entry_at es p
      same zero h = refl
      same (suc i) h = push_same es e i (omega arith)

  grown_is : (r : Result ℕ Refusal) → IsGrown es e r (grown r e es)
  grown_is (Ok p) = one_more
  grown_is (Err f) = refl

  is_grown : (es' : List (Entry K)) (r : Result ℕ Refusal) → IsGrown es e r es' → es' ≡ grown r e es
  is_grown es' (Ok p) h = push_only es es' e h.size (λ i l. h.same (suc i) (omega arith)) h.last
  is_grown es' (Err f) h = h

pub growing_is_told_lem : (K : Type 0) → GrowingIsTold K
growing_is_told_lem K es es' e r = (λ h. is_grown es e es' r h, λ h. subst (IsGrown es e r) (sym h) (grown_is es e r))

pub entered_stands_lem : (K : Type 0) → EnteredStands K
entered_stands_lem K places es e p is =
    let next : p ≡ suc (length es) = omega (arith, (entered_free places es e.cue p is).next) in
    ap (entry_at (es ++ e ∷ [])) next ∙ push_last es e

module _ {K : Type 0} (es : List (Entry K)) (n : ℕ) where
  begun_by : (a b : Bool) → is_cue n ≡ a → acted (λ x. true) es n ≡ b → IsBegun es n (cond (not a) (Err NoSuchCue) (cond b (Err CueEntered) (Ok (record { cue = n }))))
  begun_by false b cue did = λ is. never (is_cue n) cue (is_of_cue n is)
  begun_by true true cue did = entry_to es n did
  begun_by true false cue did = record { cue = cue_is n cue; unentered = λ is. never (acted (λ x. true) es n) did (entry_from es n is); of = refl }

  pub begun_is : IsBegun es n (begun es n)
  begun_is = begun_by (is_cue n) (acted (λ x. true) es n) refl refl

  begun_to : (a b : Bool) → is_cue n ≡ a → acted (λ x. true) es n ≡ b → cond (not a) (Err NoSuchCue) (cond b (Err CueEntered) (Ok (record { cue = n }))) ≡ begun es n
  begun_to a b cue did = sym (λ i. cond (not (cue i)) (Err NoSuchCue) (cond (did i) (Err CueEntered) (Ok (record { cue = n }))))

  is_begun : (r : Result Ticket Refusal) → IsBegun es n r → r ≡ begun es n
  is_begun (Ok t) h =
      let of = h.of in
      (λ i. Ok (record { cue = of i }))
      ∙ begun_to true false (is_of_cue n h.cue) (fails (acted (λ x. true) es n) (λ d. h.unentered (entry_to es n d)))
  is_begun (Err NoSuchCue) h = begun_to false (acted (λ x. true) es n) (fails (is_cue n) (λ c. h (cue_is n c))) refl
  is_begun (Err CueEntered) h = begun_to true true (is_of_cue n h.1.cue) (entry_from es n h)
  is_begun (Err _) h = absurd h

pub beginning_is_told_lem : (K : Type 0) → BeginningIsTold K
beginning_is_told_lem K es n r = (λ h. is_begun es n r h, λ e. subst (IsBegun es n) (sym e) (begun_is es n))

module _ (t : Ticket) (ending : Ending) where
  is_closed : (r : Result ℕ Refusal) (c : Result Receipt (Ticket × Refusal)) → IsClosed t ending r c → c ≡ closed t ending r
  is_closed (Ok p) (Ok receipt) h =
      let place : receipt.place ≡ p = cc in
      let which = h.1 in
      (λ i. Ok (record { place = place i; ending = which i }))
  is_closed (Ok p) (Err back) h = cc
  is_closed (Err f) (Ok receipt) h = cc
  is_closed (Err f) (Err back) h =
      let mine = h.0 in
      let why : back.1 ≡ f = cc in
      (λ i. Err (mine i, why i))

  closed_is : (r : Result ℕ Refusal) → IsClosed t ending r (closed t ending r)
  closed_is (Ok p) = (refl, refl)
  closed_is (Err f) = (refl, refl)

pub closing_is_told_lem : ClosingIsTold
closing_is_told_lem t ending r c = (λ h. is_closed t ending r c h, λ e. subst (IsClosed t ending r) (sym e) (closed_is t ending r))
