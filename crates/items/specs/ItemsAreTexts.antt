-- Laws of items: axes and marks by what is written of them, and the letters and words of marks.
--
--   AxesAreTheirTexts   == two axes are the same exactly when they are written the same
--   CaseIsIgnored       == a letter is the same as its other case, and as no other byte
--   LettersAreNumbered  == the letters answer to 1 to 52, in the order of their bytes
--   DiffersFirst v w    == where v and w first differ, v has the smaller byte
--   PrecedesWord v w    == v has fewer letters, or as many and differs first
--   MarksAreWords       == each word of 1 to 8 letters is that of exactly one mark
--   MarksAreTheirTexts  == two marks are the same exactly when they are written the same, with case
--                          ignored
use Rattle.std.specs.Prelude.{◌≡◌, ℕ, ◌+◌, ◌<◌, ◌≤◌, ◌↔◌, ◌⊎◌, true, false, List, map}
use Rattle.std.specs.Prelude.{length, take, Some, decimal, slice_index}
use Rattle.columns.specs.Symbols.{is_letter}
use Rattle.columns.specs.NumbersAreTexts.{IsJustified}
use Rattle.items.specs.declared.Axis.{Axis}
use Rattle.items.specs.declared.Mark.{Mark}
use Rattle.items.specs.Words.{folded, letter_value, letter_of}
use Rattle.items.specs.Kinds.{axis_alike, axis_text, axis_in}
use Rattle.items.specs.Kinds.{words, letters, mark_alike, mark_text, mark_in}
use Rattle.items.specs.Marks.{Word}

-- two axes are the same exactly when they are written the same, each number from 0 to 65535 is an
-- axis of its own, written in decimals, past the last axes count on from the first, and eight
-- columns are read as an axis exactly when they are what is written of it
pub record AxesAreTheirTexts : Type 0 where
  pub alike : (a b : Axis) → (axis_alike a b ≡ true) ↔ (axis_text a ≡ axis_text b)
  pub own :
      (a b : Axis) → a.number ≤ 65535 → b.number ≤ 65535
      → axis_text a ≡ axis_text b → a.number ≡ b.number
  pub on : (a b : Axis) → a.number ≡ b.number + 65536 → axis_text a ≡ axis_text b
  pub written : (a : Axis) → a.number ≤ 65535 → IsJustified 8 (decimal a.number) (axis_text a)
  pub read :
      (bs : List ℕ) (a : Axis) → length bs ≡ 8
      → (axis_in bs ≡ Some a) ↔ ((a.number ≤ 65535) × (axis_text a ≡ bs))

-- with case ignored, each letter is the same as its other case and as no other letter, and a byte
-- that is no letter is the same as no other byte
pub record CaseIsIgnored : Type 0 where
  pub cases :
      (v w : ℕ) → 1 ≤ v → v ≤ 26 → 1 ≤ w → w ≤ 26
      → (folded (letter_of v) ≡ folded (letter_of (w + 26))) ↔ (v ≡ w)
  pub others : (b c : ℕ) → is_letter b ≡ false → folded b ≡ folded c → b ≡ c

-- the letters are those of 1 to 52, each of which has its own, in the order of their bytes
pub record LettersAreNumbered : Type 0 where
  pub all :
      (b : ℕ) → (is_letter b ≡ true) ↔ ((v : ℕ) × (1 ≤ v) × (v ≤ 52) × (letter_of v ≡ b))
  pub order : (v w : ℕ) → 1 ≤ v → v < w → w ≤ 52 → letter_of v < letter_of w
  pub value : (v : ℕ) → 1 ≤ v → v ≤ 52 → letter_value (letter_of v) ≡ v

pub record DiffersFirst (v w : List ℕ) : Type 0 where
  pub index : ℕ
  pub within : index < length v
  pub front : take index v ≡ take index w
  pub less : slice_index v index < slice_index w index

abbrev pub PrecedesWord : List ℕ → List ℕ → Type 0
PrecedesWord v w = (length v < length w) ⊎ ((length v ≡ length w) × DiffersFirst v w)

-- the letters of a mark are a word, each word is that of exactly one mark below `words`, these are
-- numbered in the order of their words, and past the last word marks count on from the first
pub record MarksAreWords : Type 0 where
  pub is : (m : Mark) → Word (letters m)
  pub all : (w : List ℕ) → Word w → (m : Mark) × (m.number < words) × (letters m ≡ w)
  pub one :
      (m n : Mark) → m.number < words → n.number < words
      → letters m ≡ letters n → m.number ≡ n.number
  pub order :
      (m n : Mark) → m.number < n.number → n.number < words
      → PrecedesWord (letters m) (letters n)
  pub on : (m n : Mark) → m.number ≡ n.number + words → letters m ≡ letters n

-- two marks are the same exactly when they are written the same, with case ignored, a mark is
-- written by its letters, and eight columns are read as a mark exactly when they are what is
-- written of it
pub record MarksAreTheirTexts : Type 0 where
  pub alike :
      (a b : Mark)
      → (mark_alike a b ≡ true) ↔ (map folded (mark_text a) ≡ map folded (mark_text b))
  pub written : (m : Mark) → IsJustified 8 (letters m) (mark_text m)
  pub read :
      (bs : List ℕ) (m : Mark) → length bs ≡ 8
      → (mark_in bs ≡ Some m) ↔ ((m.number < words) × (mark_text m ≡ bs))
