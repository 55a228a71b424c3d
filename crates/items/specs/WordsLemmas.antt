-- Words and their numbers. Assumes nothing.
use Rattle.std.specs.Prelude.{◌≡◌, ℕ, zero, suc, ◌+◌, ◌-◌, ◌*◌, ◌/◌, ◌%◌, ◌<◌, ◌≤◌, Bool, true, false, cond, ◌&&◌, ◌⊎◌, List, [], ◌∷◌, ◌++◌, map, length, drop, replicate, Some, None, Option, ◌==◌, ◌≢◌, slice_index, refl}
use Rattle.std.proofs.Math.Bool.{and-true}
use Rattle.std.proofs.Common.{append_assoc, append-nil, inl, inr, sym, ap, subst, ◌∙◌, add-one, arith}
use Rattle.std.proofs.lemmas.List.{at_drop_more, at_drop_all, length_push, length-map, map_push, replicate_more}
use Rattle.std.proofs.lemmas.Bool.{and_from, and_right, eq-eqb, ne_eqb}
use Rattle.columns.specs.Columns.{after_blanks, justified}
use Rattle.lists.specs.Lists.{every}
use Rattle.lists.proofs.Every.{every_rest, every_append}
use Rattle.columns.proofs.Blanks.{no_blanks, after_blanks_justified, justified_none, justified_push}
use Rattle.items.specs.Fields.{equal}
use Rattle.items.specs.Words.{folded, letter_value, letter_of, word_from, word}
use Rattle.columns.specs.Symbols.{is_letter}
use Rattle.items.specs.Letters.{value_low, value_high, of_value, letter_of_lem, value_of}
use Rattle.items.specs.FieldsLemmas.{equal_push, equal_lengths}

-- how many words have 1 to k letters
abbrev pub most : ℕ → ℕ
most zero = 0
most (suc k) = most k * 52 + 52

pub most_le : (i j : ℕ) → i ≤ j → most i ≤ most j
most_le zero j h = omega arith
most_le (suc i) zero h = absurd (omega arith)
most_le (suc i) (suc j) h = let e = most_le i j (omega arith) in omega arith

pub word_none : (k : ℕ) → word k 0 ≡ []
word_none zero = refl
word_none (suc k) = refl

-- from the number of a word to its letters

-- one more letter
pub word_push : (j n b : ℕ) → is_letter b ≡ true → word (suc j) (n * 52 + letter_value b) ≡ word j n ++ b ∷ []
word_push j n b h =
    let l = value_low b h in
    let u = value_high b h in
    let m : ℕ = n * 52 + (letter_value b - 1) in
    let e : n * 52 + letter_value b ≡ suc m = omega arith in
    let q : m / 52 ≡ n = omega arith in
    let r : m % 52 + 1 ≡ letter_value b = omega arith in
    ap (word (suc j)) e ∙ ap (λ x. word j x ++ letter_of (m % 52 + 1) ∷ []) q ∙ ap (λ x. word j n ++ x ∷ []) (ap letter_of r ∙ of_value b h)

pub word_after : (w : List ℕ) (j n : ℕ) → every is_letter w ≡ true → word (length w + j) (word_from n w) ≡ word j n ++ w
word_after [] j n h = let e : 0 + j ≡ j = omega arith in ap (λ k. word k n) e ∙ sym (append-nil (word j n))
word_after (b ∷ bs) j n h =
    let p = every_rest is_letter b bs h in
    let e : suc (length bs) + j ≡ length bs + suc j = omega arith in
    ap (λ k. word k (word_from n (b ∷ bs))) e
    ∙ word_after bs (suc j) (n * 52 + letter_value b) p.1
    ∙ ap (λ x. x ++ bs) (word_push j n b p.0)
    ∙ append_assoc (word j n) (b ∷ []) bs

pub word_of_word_from : (w : List ℕ) (k : ℕ) → every is_letter w ≡ true → length w ≤ k → word k (word_from 0 w) ≡ w
word_of_word_from w k h l =
    let e : k ≡ length w + (k - length w) = omega arith in
    ap (λ x. word x (word_from 0 w)) e ∙ word_after w (k - length w) 0 h ∙ ap (λ x. x ++ w) (word_none (k - length w))

-- from the letters of a word to its number

pub word_from_append : (xs ys : List ℕ) (n : ℕ) → word_from n (xs ++ ys) ≡ word_from (word_from n xs) ys
word_from_append [] ys n = refl
word_from_append (x ∷ xs) ys n = word_from_append xs ys (n * 52 + letter_value x)

pub word_from_word : (k n : ℕ) → n ≤ most k → word_from 0 (word k n) ≡ n
word_from_word zero n h = omega arith
word_from_word (suc k) zero h = refl
word_from_word (suc k) (suc n) h =
    let a = word_from_append (word k (n / 52)) (letter_of (n % 52 + 1) ∷ []) 0 in
    let b = word_from_word k (n / 52) (omega arith) in
    let c = value_of (n % 52 + 1) (omega arith) (omega arith) in
    omega arith

-- the word with a number is of letters, and of at most k of them

pub word_letters : (k n : ℕ) → every is_letter (word k n) ≡ true
word_letters zero n = refl
word_letters (suc k) zero = refl
word_letters (suc k) (suc n) =
    every_append is_letter (word k (n / 52)) (letter_of (n % 52 + 1) ∷ []) (word_letters k (n / 52))
    (and_from (is_letter (letter_of (n % 52 + 1))) true (letter_of_lem (n % 52 + 1) (omega arith) (omega arith)) refl)

pub word_length : (k n : ℕ) → length (word k n) ≤ k
word_length zero n = omega arith
word_length (suc k) zero = omega arith
word_length (suc k) (suc n) = omega (arith, length_push (word k (n / 52)) (letter_of (n % 52 + 1)), word_length k (n / 52))

pub word_some : (k n : ℕ) → 1 ≤ n → 1 ≤ k → 1 ≤ length (word k n)
word_some zero n h l = omega arith
word_some (suc k) zero h l = omega arith
word_some (suc k) (suc n) h l = omega (arith, length_push (word k (n / 52)) (letter_of (n % 52 + 1)))

-- the number of a word of letters is among those of the words of its length

word_from_within : (w : List ℕ) (j n : ℕ) → every is_letter w ≡ true → n ≤ most j → word_from n w ≤ most (length w + j)
word_from_within [] j n h l = let e : 0 + j ≡ j = omega arith in subst (λ k. n ≤ most k) (sym e) l
word_from_within (b ∷ bs) j n h l =
    let p = every_rest is_letter b bs h in
    let v = value_high b p.0 in
    let e : suc (length bs) + j ≡ length bs + suc j = omega arith in
    subst (λ k. word_from n (b ∷ bs) ≤ most k) (sym e) (word_from_within bs (suc j) (n * 52 + letter_value b) p.1 (omega arith))

pub word_from_most : (w : List ℕ) (k : ℕ) → every is_letter w ≡ true → length w ≤ k → word_from 0 w ≤ most k
word_from_most w k h l =
    let e : length w + (k - length w) ≡ k = omega arith in
    subst (λ x. word_from 0 w ≤ most x) e (word_from_within w (k - length w) 0 h (omega arith))

pub word_from_least : (w : List ℕ) (n : ℕ) → n ≤ word_from n w
word_from_least [] n = omega arith
word_from_least (b ∷ bs) n = omega (arith, word_from_least bs (n * 52 + letter_value b))

pub word_from_some : (w : List ℕ) → 1 ≤ length w → every is_letter w ≡ true → 1 ≤ word_from 0 w
word_from_some [] l h = omega arith
word_from_some (b ∷ bs) l h =
    omega (arith, word_from_least bs (0 * 52 + letter_value b), value_low b (every_rest is_letter b bs h).0)

-- Reading letters one by one

-- the number of a word, after n, where each byte is a letter
abbrev pub letters_from : ℕ → List ℕ → Option ℕ
letters_from n bs = cond (every is_letter bs) (Some (word_from n bs)) None

pub letter_more : (n : ℕ) (bs : List ℕ) (i : ℕ) → i < length bs → is_letter (slice_index bs i) ≡ true → letters_from n (drop i bs) ≡ letters_from (n * 52 + letter_value (slice_index bs i)) (drop (i + 1) bs)
letter_more n bs i h is =
    at_drop_more (letters_from n) bs i 0 h
    ∙ ap (λ (t : Bool). cond (t && every is_letter (drop (i + 1) bs)) (Some (word_from (n * 52 + letter_value (slice_index bs i)) (drop (i + 1) bs))) None) is

pub letter_stop : (n : ℕ) (bs : List ℕ) (i : ℕ) → i < length bs → is_letter (slice_index bs i) ≡ false → letters_from n (drop i bs) ≡ None
letter_stop n bs i h out =
    at_drop_more (letters_from n) bs i 0 h
    ∙ ap (λ (t : Bool). cond (t && every is_letter (drop (i + 1) bs)) (Some (word_from (n * 52 + letter_value (slice_index bs i)) (drop (i + 1) bs))) None) out

pub letter_end : (n : ℕ) (bs : List ℕ) (i : ℕ) → length bs ≤ i → letters_from n (drop i bs) ≡ Some n
letter_end n bs i h = at_drop_all (letters_from n) bs i h

-- Words in columns

-- the last column of no word, and the columns before it
blank_last : (a : ℕ) → justified (suc a) (word (suc a) 0) ≡ justified a (word a 0) ++ 32 ∷ []
blank_last a =
    justified_none (suc a)
    ∙ sym (replicate_more a 32 ∙ ap (λ (n : ℕ). replicate n 32) (add-one a))
    ∙ ap (λ (xs : List ℕ). xs ++ 32 ∷ []) (sym (ap (justified a) (word_none a) ∙ justified_none a))

pub word_blank : (at n : ℕ) → 0 < at → n ≡ 0 → justified at (word at n) ≡ justified (at - 1) (word (at - 1) n) ++ 32 ∷ []
word_blank at n some none =
    let next : at ≡ suc (at - 1) = omega arith in
    (λ i. justified (next i) (word (next i) (none i))) ∙ blank_last (at - 1) ∙ ap (λ (m : ℕ). justified (at - 1) (word (at - 1) m) ++ 32 ∷ []) (sym none)

-- the last letter of a word stands in the last column
pub word_letter : (w k n : ℕ) → k + 1 ≡ w → 0 < n → justified w (word w n) ≡ justified k (word k ((n - 1) / 52)) ++ letter_of ((n - 1) % 52 + 1) ∷ []
word_letter w k n more pos =
    let next : w ≡ suc k = omega arith in
    let some : n ≡ suc (n - 1) = omega arith in
    (λ i. justified (next i) (word (next i) (some i))) ∙ justified_push k (word k ((n - 1) / 52)) (letter_of ((n - 1) % 52 + 1))

pub after_word : (w : ℕ) (bs : List ℕ) → every is_letter bs ≡ true → length bs ≤ w → after_blanks (justified w bs) ≡ bs
after_word w bs h l = after_blanks_justified w bs l (no_blanks is_letter bs refl h)

-- Words compared from their last letters

-- a word that k letters are enough for
word_more : (k n : ℕ) → n ≤ most k → word (suc k) n ≡ word k n
word_more zero zero h = refl
word_more zero (suc n) h = absurd (omega arith)
word_more (suc k) zero h = refl
word_more (suc k) (suc n) h = ap (λ (xs : List ℕ). xs ++ letter_of (n % 52 + 1) ∷ []) (word_more k (n / 52) (omega arith))

-- the last letter, and the word before it
word_last : (k n : ℕ) → 0 < n → n ≤ most (suc k) → word (suc k) n ≡ word (suc k) ((n - 1) / 52) ++ letter_of ((n - 1) % 52 + 1) ∷ []
word_last k n some h =
    let next : n ≡ suc (n - 1) = omega arith in
    ap (word (suc k)) next ∙ ap (λ (xs : List ℕ). xs ++ letter_of ((n - 1) % 52 + 1) ∷ []) (sym (word_more k ((n - 1) / 52) (omega arith)))

-- two words of at most 8 letters are the same, with case ignored
abbrev pub same_word : ℕ → ℕ → Bool
same_word m n = equal (map folded (word 8 m)) (map folded (word 8 n))

-- the last letters, and the words before them
module _ (m n : ℕ) (some : 0 < m) (more : 0 < n) (h : m ≤ most 8) (k : n ≤ most 8) where
  abbrev a : ℕ
  a = folded (letter_of ((m - 1) % 52 + 1))

  abbrev b : ℕ
  b = folded (letter_of ((n - 1) % 52 + 1))

  abbrev before : Bool
  before = same_word ((m - 1) / 52) ((n - 1) / 52)

  same_last : same_word m n ≡ (before && a == b)
  same_last =
      let xs = word 8 ((m - 1) / 52) in
      let ys = word 8 ((n - 1) / 52) in
      (λ i. equal (map folded (word_last 7 m some h i)) (map folded (word_last 7 n more k i)))
      ∙ (λ i. equal (map_push folded xs (letter_of ((m - 1) % 52 + 1)) i) (map_push folded ys (letter_of ((n - 1) % 52 + 1)) i))
      ∙ equal_push (map folded xs) (map folded ys) a b

  pub last_agree : a ≡ b → before ≡ same_word m n
  last_agree e = sym (same_last ∙ ap (λ (t : Bool). before && t) (eq-eqb a b e) ∙ and-true before)

  pub last_differ : (a ≢ b) → same_word m n ≡ false
  last_differ d = same_last ∙ and_right before (a == b) (ne_eqb a b d)

-- where one word has no letter
pub none_same : (m n : ℕ) → (m ≡ 0) ⊎ (n ≡ 0) → (m == n) ≡ same_word m n
none_same zero zero e = refl
none_same zero (suc n) e =
    ne_eqb 0 (suc n) (λ z. omega arith)
    ∙ sym (equal_lengths [] (map folded (word 8 (suc n))) (λ l. omega (arith, length-map (word 8 (suc n)) folded, word_some 8 (suc n) (omega arith) (omega arith))))
none_same (suc m) zero e =
    ne_eqb (suc m) 0 (λ z. omega arith)
    ∙ sym (equal_lengths (map folded (word 8 (suc m))) [] (λ l. omega (arith, length-map (word 8 (suc m)) folded, word_some 8 (suc m) (omega arith) (omega arith))))
none_same (suc m) (suc n) e = absurd (elim e [ inl x ↦ omega arith | inr y ↦ omega arith ])
