-- The steps of reading a sheet in. Assumes nothing.
use Rattle.std.proofs.Common.{◌≡◌, ℕ, suc, ◌+◌, ◌/◌, ◌<◌, min, List, [], ◌∷◌, ◌++◌, length, take, drop, Some, None, Ok, Err, Option, Result, sym, refl, ap, ◌∙◌, arith}
use Rattle.std.proofs.lemmas.List.{length-drop, length_push, take_at, drop_at}
use Rattle.lists.proofs.Takes.{take_min, drop_min}
use Rattle.refusals.specs.declared.LineRefusal.{LineRefusal}
use Rattle.refusals.specs.declared.Refusal.{Refusal}
use Rattle.history.specs.declared.Entry.{Entry}
use Rattle.lines.specs.Reading.{line_in, next_in}
use Rattle.lines.specs.Reading as lines
use Rattle.refusals.specs.declared.Layer.{Layer}
use Rattle.refusals.specs.declared.Layer.TheVariants.{Line}
use Rattle.book.specs.Entering.{entered}
use Rattle.book.specs.Reading.{lines_by, lines_of, of_book, of_line, line_entered, some, next_entered, told, added, step, read_from}

-- the lines of what remains
pub lines_none : (bs : List ℕ) → length bs ≡ 0 → lines_of bs ≡ []
lines_none bs e = ap (λ (n : ℕ). lines_by ((n + 15) / 16) bs) e

pub lines_more : (bs : List ℕ) → 0 < length bs → lines_of bs ≡ take 16 bs ∷ lines_of (drop 16 bs)
lines_more bs h =
    let left = length-drop 16 bs in
    let next : (length bs + 15) / 16 ≡ suc ((length (drop 16 bs) + 15) / 16) = omega arith in
    ap (λ (n : ℕ). lines_by n bs) next

-- a line that was cut off what remained
pub record Cut (line after rest : List ℕ) : Type 0 where
  pub first : line ≡ take 16 rest
  pub others : after ≡ drop 16 rest

pub cut : (line after rest : List ℕ) → rest ≡ line ++ after → length line ≡ min 16 (length rest) → Cut line after rest
cut line after rest is long =
    record {
      first = sym (ap (take (length line)) is ∙ take_at line after (length line) refl) ∙ ap (λ (n : ℕ). take n rest) long ∙ take_min 16 rest;
      others = sym (ap (drop (length line)) is ∙ drop_at line after (length line) refl) ∙ ap (λ (n : ℕ). drop n rest) long ∙ drop_min 16 rest;
    }

module _ {K : Type 0} (parsed : List ℕ → Option K) (places : ℕ) (es : List (Entry K)) where
  -- what follows from the line that was read, or from the end
  abbrev from_next : Result (Option (Entry K)) LineRefusal → Result (Option (Entry K)) Layer
  from_next (Ok None) = Ok None
  from_next (Ok (Some e)) = some parsed (of_book e (entered places es e.cue))
  from_next (Err f) = Err (Line f)

  from_some : (r : Result (Entry K) LineRefusal) → some parsed (of_line places es r) ≡ from_next (lines.some parsed r)
  from_some (Ok e) = refl
  from_some (Err f) = refl

  from_next_lem : (bs : List ℕ) → next_entered parsed places es bs ≡ from_next (next_in parsed bs)
  from_next_lem [] = refl
  from_next_lem (b ∷ bs) = from_some (line_in parsed (b ∷ bs))

  pub next_end : (bs : List ℕ) → next_in parsed bs ≡ Ok None → next_entered parsed places es bs ≡ Ok None
  next_end bs e = from_next_lem bs ∙ ap from_next e

  pub next_line : (bs : List ℕ) (f : LineRefusal) → next_in parsed bs ≡ Err f → next_entered parsed places es bs ≡ Err (Line f)
  next_line bs f e = from_next_lem bs ∙ ap from_next e

  pub next_book : (bs : List ℕ) (e : Entry K) (r : Result ℕ Refusal) → next_in parsed bs ≡ Ok (Some e) → entered places es e.cue ≡ r → next_entered parsed places es bs ≡ some parsed (of_book e r)
  next_book bs e r is was = from_next_lem bs ∙ ap from_next is ∙ ap (λ (x : Result ℕ Refusal). some parsed (of_book e x)) was

  -- the first line of what remains, by what came of it
  entry_some : (r : Result (Entry K) Layer) → told (some parsed r) ≡ Ok tt → (e : Entry K) × (r ≡ Ok e)
  entry_some (Ok e) h = (e, refl)
  entry_some (Err f) h = absurd (let z : ◌≡◌ {A = ℕ} 0 1 = cc in omega arith)

  fault_some : (r : Result (Entry K) Layer) (f : Layer) → told (some parsed r) ≡ Err f → r ≡ Err f
  fault_some (Ok e) f h = absurd (let z : ◌≡◌ {A = ℕ} 0 1 = cc in omega arith)
  fault_some (Err g) f h = let is : g ≡ f = cc in ap Err is

  -- one turn, by what came of the first line of what remains

  pub turn_fault : (n : ℕ) (rest : List ℕ) (f : Layer) → told (next_entered parsed places es (take 16 rest)) ≡ Err f → (read_from parsed places n es (lines_of rest) ≡ record { answer = Err (record { line = n + 1; layer = f }); entries = es }) × (added es (next_entered parsed places es (take 16 rest)) ≡ es)
  turn_fault n [] f h = absurd (let z : ◌≡◌ {A = ℕ} 0 1 = cc in omega arith)
  turn_fault n (b ∷ rest) f h =
      let is = fault_some (line_entered parsed places es (take 16 (b ∷ rest))) f h in (
        ap (read_from parsed places n es) (lines_more (b ∷ rest) (omega arith))
            ∙ ap (step parsed n es (λ e. read_from parsed places (n + 1) (es ++ e ∷ []) (lines_of (drop 16 (b ∷ rest))))) is,
        ap (λ r. added es (some parsed r)) is,
      )

  pub record Turned (n : ℕ) (rest : List ℕ) : Type 0 where
    pub same : read_from parsed places (n + 1) (added es (next_entered parsed places es (take 16 rest))) (lines_of (drop 16 rest)) ≡ read_from parsed places n es (lines_of rest)
    pub longer : length (added es (next_entered parsed places es (take 16 rest))) ≡ length es + 1

  pub turn_more : (n : ℕ) (rest : List ℕ) → 0 < length rest → told (next_entered parsed places es (take 16 rest)) ≡ Ok tt → Turned n rest
  turn_more n [] more h = absurd (omega arith)
  turn_more n (b ∷ rest) more h =
      let found = entry_some (line_entered parsed places es (take 16 (b ∷ rest))) h in
      let new = ap (λ r. added es (some parsed r)) found.1 in
      record {
        same =
            ap (λ xs. read_from parsed places (n + 1) xs (lines_of (drop 16 (b ∷ rest)))) new
            ∙ sym
            (ap (read_from parsed places n es) (lines_more (b ∷ rest) (omega arith))
            ∙ ap (step parsed n es (λ e. read_from parsed places (n + 1) (es ++ e ∷ []) (lines_of (drop 16 (b ∷ rest))))) found.1);
        longer = ap length new ∙ length_push es found.0;
      }
