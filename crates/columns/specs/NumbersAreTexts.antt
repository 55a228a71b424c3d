-- Laws of columns: what digits and letters are, and which bytes hold a text or a number.
--
--   BlanksThen text bs        == the bytes are blanks, and then the text
--   IsJustified w text field  == the field is the text in w columns, right-justified
--   DigitsAndLetters          == which bytes are digits and letters
--   TextsAreJustified         == what stands after the blanks of a field, and a text in columns
--   NumbersAreTheirTexts      == a field holds a number exactly when it is blanks and the number
use Rattle.std.specs.Prelude.{◌≡◌, ◌≢◌, ℕ, ◌^◌, ◌<◌, ◌≤◌, ◌↔◌, true, List, [], ◌∷◌, ◌++◌}
use Rattle.std.specs.Prelude.{length, replicate, Some, Option, decimal, slice_get}
use Rattle.std.specs.Char.{to_ascii_lowercase, to_ascii_uppercase}
use Rattle.columns.specs.declared.Symbol.TheVariants.{Digit, Letter}
use Rattle.columns.specs.Symbols.{is_digit, is_upper, is_lower, is_letter, is}
use Rattle.columns.specs.Columns.{after_blanks, justified, number, up_to, number_in}

-- the bytes are blanks, and then the text
abbrev pub BlanksThen : List ℕ → List ℕ → Type 0
BlanksThen text bs = (k : ℕ) × (bs ≡ replicate k 32 ++ text)

-- the field has w columns: blanks and then the text where it fits, and else its last bytes
pub record IsJustified (w : ℕ) (text field : List ℕ) : Type 0 where
  pub wide : length field ≡ w
  pub fits : length text ≤ w → BlanksThen text field
  pub short : w ≤ length text → (front : List ℕ) × (text ≡ front ++ field)

-- the digits are the bytes by which 0 to 9 are written; a letter is a byte that has another case,
-- a capital one that has a small one, and a small one that has a capital one
pub record DigitsAndLetters : Type 0 where
  pub digit : (b : ℕ) → (is_digit b ≡ true) ↔ ((n : ℕ) × (n < 10) × (decimal n ≡ b ∷ []))
  pub capital : (b : ℕ) → (is_upper b ≡ true) ↔ (to_ascii_lowercase b ≢ b)
  pub small : (b : ℕ) → (is_lower b ≡ true) ↔ (to_ascii_uppercase b ≢ b)
  pub letter : (b : ℕ) → (is_letter b ≡ true) ↔ (to_ascii_lowercase b ≢ to_ascii_uppercase b)
  -- and so for the symbol that is asked for
  pub by_digit : (b : ℕ) → (is Digit b ≡ true) ↔ ((n : ℕ) × (n < 10) × (decimal n ≡ b ∷ []))
  pub by_letter :
      (b : ℕ) → (is Letter b ≡ true) ↔ (to_ascii_lowercase b ≢ to_ascii_uppercase b)

-- every field is its blanks and then what stands after them, which begins with no blank; and a text
-- in columns is right-justified
pub record TextsAreJustified : Type 0 where
  pub after : (bs : List ℕ) → BlanksThen (after_blanks bs) bs
  pub begins : (bs : List ℕ) → slice_get (after_blanks bs) 0 ≢ Some 32
  pub written : (w : ℕ) (text : List ℕ) → IsJustified w text (justified w text)

-- a field holds a number exactly when it is blanks and then the number as it is written in
-- decimals, and then the number has no more digits than the field has columns; a number is written
-- right-justified
pub record NumbersAreTheirTexts : Type 0 where
  pub holds :
      (bs : List ℕ) (n : ℕ) → n < 2 ^ 64 → (number bs ≡ Some n) ↔ BlanksThen (decimal n) bs
  pub below : (bs : List ℕ) (n : ℕ) → number bs ≡ Some n → n < 10 ^ length bs
  pub most : (m : ℕ) (o : Option ℕ) (n : ℕ) → (up_to m o ≡ Some n) ↔ ((o ≡ Some n) × (n ≤ m))
  pub written : (w n : ℕ) → IsJustified w (decimal n) (number_in w n)
