-- What the first line of a sheet says, by its columns, which count from 1.
--
--   column_at bs c            == the byte in column c, if there is one
--   bytes_in a e bs           == the bytes in the columns a to e
--   StandsAt bs c field       == the bytes of the field stand from column c on
--   IsLine bs                 == column 16 has a line feed, and no column before it has
--   HasLetter bs a            == column 6 has the letter of the act a, and beside it are blanks
--   HoldsItem parsed field a  == the field holds what the act a asks for
--   SaysEntry parsed bs e     == the bytes are a line that says the entry e
--   RefusesLine parsed bs f   == the bytes are refused with f
--   SaysLine parsed bs r      == the answer to reading the bytes as a line is r
--   SaysFirst parsed bs r      == the answer to reading the first line of a sheet is r
use Rattle.std.specs.Prelude.{◌≡◌, ◌≢◌, ℕ, zero, suc, ◌+◌, ◌-◌, ◌<◌, ◌↔◌}
use Rattle.std.specs.Prelude.{List, [], length, replicate}
use Rattle.std.specs.Prelude.{Some, None, Ok, Err, Option, Result, slice_get}
use Rattle.std.specs.List.{between}
use Rattle.refusals.specs.declared.LineRefusal.{LineRefusal}
use Rattle.refusals.specs.declared.LineRefusal.TheVariants.{Shape, CueField, Letter, ItemField}
use Rattle.history.specs.declared.Act.{Act}
use Rattle.history.specs.declared.Act.TheVariants.{Read, Write, Commit, Abort}
use Rattle.history.specs.declared.Entry.{Entry}
use Rattle.columns.specs.Columns.{number}
use Rattle.lines.specs.Reading.{line_in, next_in}
use Rattle.lines.specs.Writing.{letter_of}

abbrev pub column_at : List ℕ → ℕ → Option ℕ
column_at bs zero = None
column_at bs (suc i) = slice_get bs i

abbrev pub bytes_in : ℕ → ℕ → List ℕ → List ℕ
bytes_in a e bs = between (a - 1) e bs

abbrev pub StandsAt : List ℕ → ℕ → List ℕ → Type 0
StandsAt bs first field =
    (i : ℕ) → i < length field → column_at bs (first + i) ≡ slice_get field i

pub record IsLine (bs : List ℕ) : Type 0 where
  pub feed : column_at bs 16 ≡ Some 10
  pub unbroken : (c : ℕ) → c < 16 → column_at bs c ≢ Some 10

pub record HasLetter {K : Type 0} (bs : List ℕ) (a : Act K) : Type 0 where
  pub before : column_at bs 5 ≡ Some 32
  pub letter : column_at bs 6 ≡ Some (letter_of a)
  pub after : column_at bs 7 ≡ Some 32

-- an act whatever its item, of which only the letter counts
abbrev pub AnyAct : Type 0
AnyAct = Act (Unit {0})

-- a line whose cue field holds no number
pub record HasNoCue (bs : List ℕ) : Type 0 where
  pub line : IsLine bs
  pub none : number (bytes_in 1 4 bs) ≡ None

-- a line whose cue field holds a number, but with no letter of an act between blanks
pub record HasNoLetter (bs : List ℕ) : Type 0 where
  pub line : IsLine bs
  pub cue : ℕ
  pub field : number (bytes_in 1 4 bs) ≡ Some cue
  pub none : (a : AnyAct) → HasLetter bs a → ⊥

module _ {K : Type 0} (parsed : List ℕ → Option K) where
  -- the item that is read or written, or nothing but blanks
  abbrev pub HoldsItem : List ℕ → Act K → Type 0
  HoldsItem field (Read k) = parsed field ≡ Some k
  HoldsItem field (Write k) = parsed field ≡ Some k
  HoldsItem field Commit = field ≡ replicate 8 32
  HoldsItem field Abort = field ≡ replicate 8 32

  pub record SaysEntry (bs : List ℕ) (e : Entry K) : Type 0 where
    pub line : IsLine bs
    pub cue : number (bytes_in 1 4 bs) ≡ Some e.cue
    pub letter : HasLetter bs e.act
    pub item : HoldsItem (bytes_in 8 15 bs) e.act

  -- a line with a cue and with the letter of an act, but without what such an act asks for
  pub record HasNoItem (bs : List ℕ) : Type 0 where
    pub line : IsLine bs
    pub cue : ℕ
    pub field : number (bytes_in 1 4 bs) ≡ Some cue
    pub act : AnyAct
    pub letter : HasLetter bs act
    pub none : (a : Act K) → HasLetter bs a → HoldsItem (bytes_in 8 15 bs) a → ⊥

  abbrev pub RefusesLine : List ℕ → LineRefusal → Type 0
  RefusesLine bs Shape = IsLine bs → ⊥
  RefusesLine bs CueField = HasNoCue bs
  RefusesLine bs Letter = HasNoLetter bs
  RefusesLine bs ItemField = HasNoItem bs

  abbrev pub SaysLine : List ℕ → Result (Entry K) LineRefusal → Type 0
  SaysLine bs (Ok e) = SaysEntry bs e
  SaysLine bs (Err f) = RefusesLine bs f

  -- no entry exactly at the sheet's end
  abbrev pub SaysFirst : List ℕ → Result (Option (Entry K)) LineRefusal → Type 0
  SaysFirst bs (Ok None) = bs ≡ []
  SaysFirst bs (Ok (Some e)) = SaysEntry bs e
  SaysFirst bs (Err f) = (bs ≢ []) × RefusesLine bs f

  -- the relations hold of what reading gives, and of nothing else
  pub record LineIsTold : Type 0 where
    pub line :
        (bs : List ℕ) (r : Result (Entry K) LineRefusal) → SaysLine bs r ↔ (r ≡ line_in parsed bs)
    pub next :
        (bs : List ℕ) (r : Result (Option (Entry K)) LineRefusal) →
        SaysFirst bs r ↔ (r ≡ next_in parsed bs)
