-- How far places and lines can go. Assumes nothing.
use Rattle.std.proofs.Common.{◌≡◌, ℕ, suc, ◌+◌, ◌<◌, ◌≤◌, Bool, List, [], ◌∷◌, ◌++◌, length, Some, None, Ok, Err, Option, Result, subst, refl, arith}
use Rattle.std.proofs.lemmas.List.{length_push}
use Rattle.std.proofs.lemmas.Bool.{cond_both}
use Rattle.refusals.specs.declared.Refusal.{Refusal}
use Rattle.refusals.specs.declared.Layer.{Layer}
use Rattle.refusals.specs.declared.LineRefusal.{LineRefusal}
use Rattle.lists.specs.Lists.{first_from}
use Rattle.history.specs.declared.Entry.{Entry}
use Rattle.lines.specs.Reading.{line_in}
use Rattle.recovery.specs.Breaks.{breaks_recoverable, breaks_cascadeless, breaks_strict}
use Rattle.recovery.specs.Classes.{class_place, ranked, first_break, class_of}
use Rattle.book.specs.declared.sheets.ReadFault.{ReadFault}
use Rattle.book.specs.Entering.{entered}
use Rattle.book.proofs.Entering.{entered_free}
use Rattle.book.specs.Reading.{of_book, of_line, line_entered, step, read_from}

-- what is found lies within
abbrev Below : ℕ → Option ℕ → Type 0
Below n None = Unit {0}
Below n (Some p) = p < n

ranked_below : (n : ℕ) → 0 < n → (r c s : Option ℕ) → Below n r → Below n c → Below n s → class_place (ranked r c s) < n
ranked_below n z (Some p) c s hr hc hs = hr
ranked_below n z None (Some p) s hr hc hs = hc
ranked_below n z None None (Some p) hr hc hs = hs
ranked_below n z None None None hr hc hs = z

module _ {K : Type 0} where
  first_below : (test : List (Entry K) → Entry K → Bool) (p : ℕ) (seen es : List (Entry K)) (n : ℕ) → p + length es ≤ n → Below n (first_from test p seen es)
  first_below test p seen [] n h = tt
  first_below test p seen (e ∷ es) n h =
      cond_both (test seen e) (Some p) (first_from test (suc p) (seen ++ e ∷ []) es) (Below n) (λ b. omega arith) (λ b. first_below test (suc p) (seen ++ e ∷ []) es n (omega arith))

  pub place_within : (alike : K → K → Bool) (es : List (Entry K)) → class_place (class_of alike es) ≤ length es
  place_within alike es =
      let n = 1 + length es in
      let b = λ (test : List (Entry K) → Entry K → Bool). first_below test 1 [] es n (omega arith) in
      let h = ranked_below n (omega arith) (first_break (breaks_recoverable alike) es) (first_break (breaks_cascadeless alike) es) (first_break (breaks_strict alike) es) (b (breaks_recoverable alike)) (b (breaks_cascadeless alike)) (b (breaks_strict alike)) in
      omega (arith, h)

-- a line that is entered has a place free
module _ {K : Type 0} (parsed : List ℕ → Option K) (places : ℕ) where
  abbrev Taking : List (Entry K) → Result (Entry K) Layer → Type 0
  Taking es (Ok e) = length es < places
  Taking es (Err f) = Unit {0}

  of_book_lem : (es : List (Entry K)) (e : Entry K) (r : Result ℕ Refusal) → entered places es e.cue ≡ r → Taking es (of_book e r)
  of_book_lem es e (Ok p) is = (entered_free places es e.cue p is).fits
  of_book_lem es e (Err f) is = tt

  of_line_lem : (es : List (Entry K)) (r : Result (Entry K) LineRefusal) → Taking es (of_line places es r)
  of_line_lem es (Ok e) = of_book_lem es e (entered places es e.cue) refl
  of_line_lem es (Err f) = tt

  -- no fault past the line after the last that has a place
  abbrev pub LineWithin : Result ℕ ReadFault → Type 0
  LineWithin (Ok n) = Unit {0}
  LineWithin (Err f) = f.line ≤ places + 1

  read_within : (n : ℕ) (es : List (Entry K)) (ls : List (List ℕ)) → n ≡ length es → n ≤ places → LineWithin (read_from parsed places n es ls).answer
  read_within n es [] is h = tt
  read_within n es (l ∷ ls) is h =
      go (λ e t. read_within (n + 1) (es ++ e ∷ []) ls (omega (arith, is, length_push es e)) (omega (arith, is, t))) (line_entered parsed places es l) (of_line_lem es (line_in parsed l))
    where
      go : ((e : Entry K) → length es < places → LineWithin (read_from parsed places (n + 1) (es ++ e ∷ []) ls).answer) → (r : Result (Entry K) Layer) → Taking es r → LineWithin (step parsed n es (λ e. read_from parsed places (n + 1) (es ++ e ∷ []) ls) r).answer
      go more (Ok e) t = more e t
      go more (Err f) t = omega (arith, h)

  -- no more entries than places
  entries_within : (n : ℕ) (es : List (Entry K)) (ls : List (List ℕ)) → length es ≤ places → length (read_from parsed places n es ls).entries ≤ places
  entries_within n es [] h = h
  entries_within n es (l ∷ ls) h =
      go (λ e t. entries_within (n + 1) (es ++ e ∷ []) ls (omega (arith, length_push es e, t))) (line_entered parsed places es l) (of_line_lem es (line_in parsed l))
    where
      go : ((e : Entry K) → length es < places → length (read_from parsed places (n + 1) (es ++ e ∷ []) ls).entries ≤ places) → (r : Result (Entry K) Layer) → Taking es r → length (step parsed n es (λ e. read_from parsed places (n + 1) (es ++ e ∷ []) ls) r).entries ≤ places
      go more (Ok e) t = more e t
      go more (Err f) t = h

  pub entries_few : (ls : List (List ℕ)) → length (read_from parsed places 0 [] ls).entries ≤ places
  entries_few ls = entries_within 0 [] ls (omega arith)

  pub line_few : (ls : List (List ℕ)) (f : ReadFault) → (read_from parsed places 0 [] ls).answer ≡ Err f → f.line ≤ places + 1
  line_few ls f e = subst LineWithin e (read_within 0 [] ls refl (omega arith))
