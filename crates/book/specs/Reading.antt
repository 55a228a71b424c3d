-- What is read in from a sheet. Assumes nothing.
use Rattle.std.specs.Prelude.{ℕ, zero, suc, ◌+◌, ◌/◌, List, [], ◌∷◌, ◌++◌, length, take, drop, Some, None, Ok, Err, Option, Result}
use Rattle.refusals.specs.declared.LineRefusal.{LineRefusal}
use Rattle.refusals.specs.declared.Refusal.{Refusal}
use Rattle.history.specs.declared.Entry.{Entry}
use Rattle.lines.specs.Reading.{line_in}
use Rattle.refusals.specs.declared.Layer.{Layer}
use Rattle.refusals.specs.declared.Layer.TheVariants.{Line, Book}
use Rattle.book.specs.declared.sheets.ReadFault.{ReadFault}
use Rattle.book.specs.Entering.{entered}

-- the lines of a sheet: 16 bytes each, and what is left at its end
abbrev pub lines_by : ℕ → List ℕ → List (List ℕ)
lines_by zero bs = []
lines_by (suc n) bs = take 16 bs ∷ lines_by n (drop 16 bs)

abbrev pub lines_of : List ℕ → List (List ℕ)
lines_of bs = lines_by ((length bs + 15) / 16) bs

module _ {K : Type 0} where
  abbrev pub of_book : Entry K → Result ℕ Refusal → Result (Entry K) Layer
  of_book e (Ok place) = Ok e
  of_book e (Err f) = Err (Book f)

  abbrev pub of_line : ℕ → List (Entry K) → Result (Entry K) LineRefusal → Result (Entry K) Layer
  of_line places es (Ok e) = of_book e (entered places es e.cue)
  of_line places es (Err f) = Err (Line f)

  -- the answer to a line alone
  abbrev pub told : Result (Option (Entry K)) Layer → Result (Unit {0}) Layer
  told (Ok added) = Ok tt
  told (Err f) = Err f

  abbrev pub added : List (Entry K) → Result (Option (Entry K)) Layer → List (Entry K)
  added es (Ok None) = es
  added es (Ok (Some e)) = es ++ e ∷ []
  added es (Err f) = es

-- the answer to reading in, and the entries after it
pub record Taken (K : Type 0) : Type 0 where
  pub answer : Result ℕ ReadFault
  pub entries : List (Entry K)

module _ {K : Type 0} (parsed : List ℕ → Option K) where
  -- the entry that a line adds to these entries, or why it adds none
  abbrev pub line_entered : ℕ → List (Entry K) → List ℕ → Result (Entry K) Layer
  line_entered places es line = of_line places es (line_in parsed line)

  abbrev pub some : Result (Entry K) Layer → Result (Option (Entry K)) Layer
  some (Ok e) = Ok (Some e)
  some (Err f) = Err f

  -- the same of the first line of what remains of a sheet, or the end
  abbrev pub next_entered : ℕ → List (Entry K) → List ℕ → Result (Option (Entry K)) Layer
  next_entered places es [] = Ok None
  next_entered places es (b ∷ bs) = some (line_entered places es (b ∷ bs))

  abbrev pub step : ℕ → List (Entry K) → (Entry K → Taken K) → Result (Entry K) Layer → Taken K
  step n es more (Ok e) = more e
  step n es more (Err f) = record { answer = Err (record { line = n + 1; layer = f }); entries = es }

  -- the same with n lines entered and others to come
  abbrev pub read_from : ℕ → ℕ → List (Entry K) → List (List ℕ) → Taken K
  read_from places n es [] = record { answer = Ok n; entries = es }
  read_from places n es (l ∷ ls) = step n es (λ e. read_from places (n + 1) (es ++ e ∷ []) ls) (line_entered places es l)

  -- the lines are entered in turn until one is refused
  abbrev pub read_in : ℕ → List (Entry K) → List ℕ → Taken K
  read_in places es sheet = read_from places 0 es (lines_of sheet)
