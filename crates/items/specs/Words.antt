-- Words of letters, numbered. Assumes nothing.
use Rattle.std.specs.Prelude.{ℕ, zero, suc, ◌+◌, ◌-◌, ◌*◌, ◌/◌, ◌%◌, cond, List, [], ◌∷◌, ◌++◌, nat_le}
use Rattle.columns.specs.Symbols.{is_upper}

-- a byte with the case of a letter ignored
abbrev pub folded : ℕ → ℕ
folded b = cond (is_upper b) (b + 32) b

-- the letters A–Z stand for 1 to 26, a–z for 27 to 52
abbrev pub letter_value : ℕ → ℕ
letter_value b = cond (nat_le b 90) (b - 64) (b - 70)

abbrev pub letter_of : ℕ → ℕ
letter_of v = cond (nat_le v 26) (v + 64) (v + 70)

-- the number of a word, after n: 52 times the number of its front, and its last letter's value, so that no two words share one
abbrev pub word_from : ℕ → List ℕ → ℕ
word_from n [] = n
word_from n (b ∷ bs) = word_from (n * 52 + letter_value b) bs

-- the word with a number, of at most k letters; no letter for 0
abbrev pub word : ℕ → ℕ → List ℕ
word zero n = []
word (suc k) zero = []
word (suc k) (suc n) = word k (n / 52) ++ letter_of (n % 52 + 1) ∷ []
