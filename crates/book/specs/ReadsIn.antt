-- Reading in as a relation of a sheet and what comes of it. Assumes nothing.
use Rattle.std.specs.Prelude.{◌≡◌, ℕ, ◌+◌, ◌<◌, List, [], ◌++◌, length, take}
use Rattle.std.specs.Prelude.{Some, Ok, Err, Option, Result, ◌↔◌, slice_index_or}
use Rattle.std.specs.List.{slice_get}
use Rattle.refusals.specs.declared.Refusal.{Refusal}
use Rattle.refusals.specs.declared.Layer.{Layer}
use Rattle.refusals.specs.declared.Layer.TheVariants.{Line, Book}
use Rattle.history.specs.declared.Entry.{Entry}
use Rattle.lines.specs.Reading.{line_in}
use Rattle.book.specs.declared.sheets.ReadFault.{ReadFault}
use Rattle.book.specs.Entering.{entered}
use Rattle.book.specs.Reading.{lines_of, Taken, read_in}

-- the first n lines are all that there are, and that many are answered
pub record IsCount (lines : List (List ℕ)) (n m : ℕ) : Type 0 where
  pub all : length lines ≡ n
  pub count : m ≡ n

module _ {K : Type 0} (parsed : List ℕ → Option K) (places : ℕ) where
  -- the line is read as the entry, which gets the next place after these entries
  pub record SaysNext (es : List (Entry K)) (line : List ℕ) (e : Entry K) : Type 0 where
    pub says : line_in parsed line ≡ Ok e
    pub place : entered places es e.cue ≡ Ok (length es + 1)

  -- the line is read as an entry, which is refused after these entries
  pub record SaysRefused (es : List (Entry K)) (line : List ℕ) (f : Refusal) : Type 0 where
    pub entry : Entry K
    pub says : line_in parsed line ≡ Ok entry
    pub refused : entered places es entry.cue ≡ Err f

  -- the layer refuses the line after these entries
  abbrev pub Refuses : List (Entry K) → List ℕ → Layer → Type 0
  Refuses es line (Line f) = line_in parsed line ≡ Err f
  Refuses es line (Book f) = SaysRefused es line f

  -- the line after the first n is refused, and the fault tells its number, from 1, and why
  pub record IsFault (es : List (Entry K)) (lines : List (List ℕ)) (n : ℕ) (fault : ReadFault)
      : Type 0 where
    pub another : n < length lines
    pub number : fault.line ≡ n + 1
    pub refused : Refuses es (slice_index_or lines n []) fault.layer

  -- what is answered once the first n lines are entered
  abbrev pub IsAnswer : List (Entry K) → List (List ℕ) → ℕ → Result ℕ ReadFault → Type 0
  IsAnswer es lines n (Ok m) = IsCount lines n m
  IsAnswer es lines n (Err fault) = IsFault es lines n fault

  -- the first lines of the sheet say entries, each accepted after those before it, and these come
  -- after the entries that were there; the answer is their number where no line is left, and else
  -- the fault of the next line
  pub record ReadsIn (es : List (Entry K)) (sheet : List ℕ) (t : Taken K) : Type 0 where
    pub said : List (Entry K)
    pub entries : t.entries ≡ es ++ said
    pub lines :
        (i : ℕ) (e : Entry K) → slice_get said i ≡ Some e
        → SaysNext (es ++ take i said) (slice_index_or (lines_of sheet) i []) e
    pub answer : IsAnswer (es ++ said) (lines_of sheet) (length said) t.answer

-- the relation holds of what reading in gives, and of nothing else
abbrev pub ReadsInIsReadIn : {K : Type 0} → (List ℕ → Option K) → Type 0
ReadsInIsReadIn {K} parsed =
    (places : ℕ) (es : List (Entry K)) (sheet : List ℕ) (t : Taken K) →
    ReadsIn parsed places es sheet t ↔ (t ≡ read_in parsed places es sheet)
