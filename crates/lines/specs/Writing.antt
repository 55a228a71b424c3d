-- The line that says an entry. Assumes nothing.
use Rattle.std.specs.Prelude.{◌≡◌, ℕ, Bool, true, false, cond, not, nat_lt}
use Rattle.std.specs.Prelude.{List, [], ◌∷◌, ◌++◌, length, take, drop, replicate}
use Rattle.std.specs.Prelude.{Some, None, Ok, Err, Option, Result, is_some}
use Rattle.refusals.specs.declared.Layer.{Layer}
use Rattle.refusals.specs.declared.Layer.TheVariants.{Line, Book}
use Rattle.refusals.specs.declared.LineRefusal.{LineRefusal}
use Rattle.refusals.specs.declared.Refusal.{Refusal}
use Rattle.refusals.specs.declared.Refusal.TheVariants.{NoSuchCue, SpaceShort}
use Rattle.history.specs.declared.Act.{Act}
use Rattle.history.specs.declared.Act.TheVariants.{Read, Write, Commit, Abort}
use Rattle.history.specs.declared.Entry.{Entry}
use Rattle.history.specs.Entries.{is_cue}
use Rattle.columns.specs.Columns.{number_in}
use Rattle.lines.specs.Reading.{line_in, next_in}

module _ {K : Type 0} where
  abbrev pub letter_of : Act K → ℕ
  letter_of (Read k) = 114
  letter_of (Write k) = 119
  letter_of Commit = 99
  letter_of Abort = 97

  -- the item field, by the text of an item
  abbrev pub item_of : (K → List ℕ) → Act K → List ℕ
  item_of text (Read k) = text k
  item_of text (Write k) = text k
  item_of text Commit = replicate 8 32
  item_of text Abort = replicate 8 32

  abbrev pub line_of : (K → List ℕ) → Entry K → List ℕ
  line_of text e =
      number_in 4 e.cue ++ (32 ∷ letter_of e.act ∷ 32 ∷ item_of text e.act) ++ 10 ∷ []

  -- the answer to writing an entry into so many bytes, and the space after it
  abbrev pub line_written : Entry K → ℕ → Result (Unit {0}) Refusal
  line_written e n =
      cond (not (is_cue e.cue)) (Err NoSuchCue) (cond (nat_lt n 16) (Err SpaceShort) (Ok tt))

  abbrev pub space_after :
      (K → List ℕ) → Entry K → Result (Unit {0}) Refusal → List ℕ → List ℕ
  space_after text e (Ok x) space = line_of text e ++ drop 16 space
  space_after text e (Err f) space = space

  -- acts that are the same, with items alike
  abbrev pub SameAct : (K → K → Bool) → Act K → Act K → Type 0
  SameAct alike (Read a) (Read b) = alike a b ≡ true
  SameAct alike (Read a) (Write b) = ⊥
  SameAct alike (Read a) Commit = ⊥
  SameAct alike (Read a) Abort = ⊥
  SameAct alike (Write a) (Read b) = ⊥
  SameAct alike (Write a) (Write b) = alike a b ≡ true
  SameAct alike (Write a) Commit = ⊥
  SameAct alike (Write a) Abort = ⊥
  SameAct alike Commit (Read b) = ⊥
  SameAct alike Commit (Write b) = ⊥
  SameAct alike Commit Commit = Unit {0}
  SameAct alike Commit Abort = ⊥
  SameAct alike Abort (Read b) = ⊥
  SameAct alike Abort (Write b) = ⊥
  SameAct alike Abort Commit = ⊥
  SameAct alike Abort Abort = Unit {0}

  pub record SameEntry (alike : K → K → Bool) (e f : Entry K) : Type 0 where
    pub cue : e.cue ≡ f.cue
    pub act : SameAct alike e.act f.act

  -- the bytes are read as an entry that is the same as e
  pub record ReadsBack
      (alike : K → K → Bool) (parsed : List ℕ → Option K) (bs : List ℕ) (e : Entry K)
      : Type 0 where
    pub found : Entry K
    pub read : line_in parsed bs ≡ Ok found
    pub same : SameEntry alike e found

  -- sixteen bytes that are read as an entry are the line that is written of it
  abbrev pub WritesBack : (List ℕ → Option K) → (K → List ℕ) → Type 0
  WritesBack parsed text =
      (bs : List ℕ) (e : Entry K) →
      length bs ≡ 16 → line_in parsed bs ≡ Ok e → line_of text e ≡ bs

module _ {K : Type 0} where
  -- the answer to rewriting a line, by the answer to writing the entry that was read of it
  abbrev pub rewritten_as : Entry K → Result (Unit {0}) Refusal → Result (Option (Entry K)) Layer
  rewritten_as e (Ok x) = Ok (Some e)
  rewritten_as e (Err f) = Err (Book f)

  -- the answer to writing what was read into so many bytes
  abbrev pub rewritten_of :
      Result (Option (Entry K)) LineRefusal → ℕ → Result (Option (Entry K)) Layer
  rewritten_of (Ok None) n = Ok None
  rewritten_of (Ok (Some e)) n = rewritten_as e (line_written e n)
  rewritten_of (Err f) n = Err (Line f)

  -- the same, for the first line of a sheet: its entry, where the line of it was written
  abbrev pub rewritten : (List ℕ → Option K) → List ℕ → ℕ → Result (Option (Entry K)) Layer
  rewritten parsed sheet n = rewritten_of (next_in parsed sheet) n

  -- the space after it: the line that is written of the entry and the rest, or what it held
  abbrev pub space_rewritten : (K → List ℕ) → Result (Option (Entry K)) Layer → List ℕ → List ℕ
  space_rewritten text (Ok (Some e)) space = line_of text e ++ drop 16 space
  space_rewritten text (Ok None) space = space
  space_rewritten text (Err f) space = space

  -- whether a line was copied, by the answer to rewriting it
  abbrev pub copied_by : Result (Option (Entry K)) Layer → Result Bool Layer
  copied_by (Ok found) = Ok (is_some found)
  copied_by (Err f) = Err f

  -- the answer to copying the first line of a sheet into so many bytes
  abbrev pub copied : (List ℕ → Option K) → List ℕ → ℕ → Result Bool Layer
  copied parsed sheet n = copied_by (rewritten parsed sheet n)

-- the space after it: the bytes of the line as they stood, or what it held
abbrev pub space_copied : Result Bool Layer → List ℕ → List ℕ → List ℕ
space_copied (Ok true) sheet space = take 16 sheet ++ drop 16 space
space_copied (Ok false) sheet space = space
space_copied (Err f) sheet space = space
