-- What is cut out of the first line of a sheet, by its columns, which count from 1.
--
--   AreAll test text     == there is a text, and each byte of it passes the test
--   AreNotAll test text  == not each byte of the text passes the test
--   IsPart bs c w p F    == the part p is the w columns from c on, and F holds of its text
--   IsField bs c w f     == the field f is these columns, and its case says what its text is
--   CutsLine bs f        == the bytes are a line with the fields f
--   SaysCut bs r         == the answer to cutting the first line of a sheet is r
--   CutIsTold            == the answers of which this holds are those that cutting gives
use Rattle.std.specs.Prelude.{◌≡◌, ◌≢◌, ℕ, ◌+◌, ◌-◌, ◌≤◌, ◌↔◌, Bool, true, List, [], ◌∷◌, ◌++◌}
use Rattle.std.specs.Prelude.{length, take, Some, None, Ok, Err, Option, Result, slice_get}
use Rattle.std.specs.List.{AllPass}
use Rattle.refusals.specs.declared.LineRefusal.{LineRefusal}
use Rattle.refusals.specs.declared.LineRefusal.TheVariants.{Shape}
use Rattle.columns.specs.Symbols.{is_digit, is_letter}
use Rattle.columns.specs.NumbersAreTexts.{BlanksThen}
use Rattle.lines.specs.declared.cuts.Part.{Part}
use Rattle.lines.specs.declared.cuts.Field.{Field}
use Rattle.lines.specs.declared.cuts.Field.TheVariants.{Digits, Letters, Blanks, Other}
use Rattle.lines.specs.declared.cuts.Fields.{Fields}
use Rattle.lines.specs.Cutting.{cut_of, seen, viewed_cut}
use Rattle.lines.specs.LineIsTold.{column_at, bytes_in, StandsAt, IsLine}

abbrev pub AreAll : (ℕ → Bool) → List ℕ → Type 0
AreAll test text = (text ≢ []) × AllPass test text

abbrev pub AreNotAll : (ℕ → Bool) → List ℕ → Type 0
AreNotAll test text = AllPass test text → ⊥

-- its bytes are those of the columns, and its text is what stands after the blanks that lead
pub record IsPart (bs : List ℕ) (first width : ℕ) (p : Part) (Fact : List ℕ → Type 0) : Type 0 where
  pub column : p.column ≡ first
  pub wide : length p.bytes.now ≡ width
  pub stands : StandsAt bs first p.bytes.now
  pub text : List ℕ
  pub after : BlanksThen text p.bytes.now
  pub begins : slice_get text 0 ≢ Some 32
  pub fact : Fact text

module _ (bs : List ℕ) (first width : ℕ) where
  abbrev pub IsField : Field → Type 0
  IsField (Digits p) = IsPart bs first width p (AreAll is_digit)
  IsField (Letters p) = IsPart bs first width p (AreAll is_letter)
  IsField (Blanks p) = IsPart bs first width p (λ text. text ≡ [])
  IsField (Other p) =
      IsPart bs first width p
      (λ text. (text ≢ []) × AreNotAll is_digit text × AreNotAll is_letter text)

pub record CutsLine (bs : List ℕ) (f : Fields) : Type 0 where
  pub line : IsLine bs
  pub cue : IsField bs 1 4 f.cue
  pub letter : IsField bs 6 1 f.letter
  pub item : IsField bs 8 8 f.item
  pub spaced : (f.spaced ≡ true) ↔ ((column_at bs 5 ≡ Some 32) × (column_at bs 7 ≡ Some 32))

-- no fields exactly at the sheet's end, and one refusal
abbrev pub SaysCut : List ℕ → Result (Option Fields) LineRefusal → Type 0
SaysCut bs (Ok None) = bs ≡ []
SaysCut bs (Ok (Some f)) = CutsLine bs f
SaysCut bs (Err e) = (e ≡ Shape) × (bs ≢ []) × (IsLine bs → ⊥)

-- the relation holds of what cutting gives and of nothing else, the fields of a line whose letter
-- stands between blanks are, put together, the line, and the bytes in columns are those there
pub record CutIsTold : Type 0 where
  pub cut :
      (bs : List ℕ) (r : Result (Option Fields) LineRefusal)
      → SaysCut bs r ↔ (viewed_cut r ≡ cut_of bs)
  pub joined :
      (bs : List ℕ) (f : Fields) → CutsLine bs f → f.spaced ≡ true
      → take 16 bs
      ≡ (seen f.cue).bytes ++ (32 ∷ (seen f.letter).bytes) ++ (32 ∷ (seen f.item).bytes) ++ 10 ∷ []
  pub columns :
      (bs : List ℕ) (a e : ℕ) → 1 ≤ a → a ≤ e → e ≤ length bs →
      (length (bytes_in a e bs) ≡ e + 1 - a) × StandsAt bs a (bytes_in a e bs)
