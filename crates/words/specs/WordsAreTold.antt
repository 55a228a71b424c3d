-- Laws of words and of rows of numbers in print.
--
--   SaysItem parsed word r  == r is what the kind reads of the word, right-justified in the eight
--                              columns of a line's item; none of a longer word
--   WordIsTold parsed       == the answers of which this holds are those that a word gives
--   SpacedIsTold            == numbers in print are cut at their blanks into the numbers
use Rattle.std.specs.Prelude.{◌≡◌, ℕ, ◌^◌, ◌<◌, ◌≤◌, ◌↔◌, ◌⊎◌, ◌==◌, List, [], ◌∷◌, length, map}
use Rattle.std.specs.Prelude.{Some, None, Option, decimal, slice_get}
use Rattle.std.specs.List.{slice_split}
use Rattle.columns.specs.NumbersAreTexts.{IsJustified}
use Rattle.words.specs.Words.{item_in, spaced}

module _ {K : Type 0} (parsed : List ℕ → Option K) where
  -- none exactly where the word has more than eight bytes, or where its columns hold no item
  abbrev pub SaysItem : List ℕ → Option K → Type 0
  SaysItem word (Some k) =
      (length word ≤ 8)
      × (field : List ℕ) × IsJustified 8 word field × (parsed field ≡ Some k)
  SaysItem word None =
      (8 < length word)
      ⊎ ((field : List ℕ) × IsJustified 8 word field × (parsed field ≡ None))

  abbrev pub WordIsTold : Type 0
  WordIsTold = (word : List ℕ) (r : Option K) → SaysItem word r ↔ (r ≡ item_in parsed word)

-- cut at each blank, the bytes are nothing before the first, and then the numbers in decimals
abbrev pub SpacedIsTold : Type 0
SpacedIsTold =
    (ns bs : List ℕ) → ((i n : ℕ) → slice_get ns i ≡ Some n → n < 2 ^ 64) →
    (slice_split (λ b. b == 32) bs ≡ [] ∷ map decimal ns) ↔ (bs ≡ spaced ns)
