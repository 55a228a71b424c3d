-- How a line is cut into fields. Assumes nothing.
use Rattle.std.specs.Prelude.{◌≡◌, ℕ, Bool, cond, not, ◌&&◌, List, [], ◌∷◌, length, take, Some, None, Ok, Err, Option, Result, ◌==◌, nat_le, slice_index}
use Rattle.std.specs.List.{between}
use Rattle.refusals.specs.declared.LineRefusal.{LineRefusal}
use Rattle.refusals.specs.declared.LineRefusal.TheVariants.{Shape}
use Rattle.lists.specs.Lists.{every, has}
use Rattle.columns.specs.Symbols.{is_digit, is_letter}
use Rattle.columns.specs.Columns.{after_blanks}
use Rattle.lines.specs.declared.cuts.Field.{Field}
use Rattle.lines.specs.declared.cuts.Field.TheVariants.{Digits, Letters, Blanks, Other}
use Rattle.lines.specs.declared.cuts.Fields.{Fields}

-- the first 16 bytes are a line: a line feed is the last of them, and no other
abbrev pub whole : List ℕ → Bool
whole bs = nat_le 16 (length bs) && (not (has 10 (take 15 bs)) && slice_index bs 15 == 10)

-- what fills a field after its leading blanks
pub data Filling : Type 0 where
  digits : Filling
  letters : Filling
  blanks : Filling
  other : Filling

abbrev pub filling_after : List ℕ → Filling
filling_after [] = blanks
filling_after (b ∷ bs) = cond (every is_digit (b ∷ bs)) digits (cond (every is_letter (b ∷ bs)) letters other)

abbrev pub filling : List ℕ → Filling
filling bs = filling_after (after_blanks bs)

-- a field: its filling, its first column, and its bytes with the blanks among them
pub record Seen : Type 0 where
  pub filled : Filling
  pub column : ℕ
  pub bytes : List ℕ

abbrev pub field_of : ℕ → List ℕ → Seen
field_of column bs = record { filled = filling bs; column = column; bytes = bs }

-- the fields of a line, and whether the columns beside the letter are blank
pub record CutLine : Type 0 where
  pub cue : Seen
  pub letter : Seen
  pub item : Seen
  pub spaced : Bool

abbrev pub spaced_in : List ℕ → Bool
spaced_in bs = slice_index bs 4 == 32 && slice_index bs 6 == 32

abbrev pub line_cut : List ℕ → CutLine
line_cut bs = record { cue = field_of 1 (between 0 4 bs); letter = field_of 6 (between 5 6 bs); item = field_of 8 (between 7 15 bs); spaced = spaced_in bs }

-- the fields that are read are as wide as a line's, and their fillings are those of their bytes
pub record WellCut (l : CutLine) : Type 0 where
  pub cue_filled : l.cue.filled ≡ filling l.cue.bytes
  pub cue_wide : length l.cue.bytes ≡ 4
  pub item_filled : l.item.filled ≡ filling l.item.bytes
  pub item_wide : length l.item.bytes ≡ 8

-- the first line of what remains of a sheet, or the end
abbrev pub cut_of : List ℕ → Result (Option CutLine) LineRefusal
cut_of [] = Ok None
cut_of (b ∷ bs) = cond (whole (b ∷ bs)) (Ok (Some (line_cut (b ∷ bs)))) (Err Shape)

-- what the code's fields say
abbrev pub seen : Field → Seen
seen (Digits p) = record { filled = digits; column = p.column; bytes = p.bytes.now }
seen (Letters p) = record { filled = letters; column = p.column; bytes = p.bytes.now }
seen (Blanks p) = record { filled = blanks; column = p.column; bytes = p.bytes.now }
seen (Other p) = record { filled = other; column = p.column; bytes = p.bytes.now }

abbrev pub viewed : Fields → CutLine
viewed f = record { cue = seen f.cue; letter = seen f.letter; item = seen f.item; spaced = f.spaced }

abbrev viewed_some : Option Fields → Option CutLine
viewed_some None = None
viewed_some (Some f) = Some (viewed f)

abbrev pub viewed_cut : Result (Option Fields) LineRefusal → Result (Option CutLine) LineRefusal
viewed_cut (Ok o) = Ok (viewed_some o)
viewed_cut (Err e) = Err e
