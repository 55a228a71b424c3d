-- Axes and marks by what is written of them.
use Rattle.std.proofs.Common.{◌≡◌, ℕ, zero, suc, ◌+◌, ◌-◌, ◌/◌, ◌%◌, ◌<◌, ◌≤◌, true, false}
use Rattle.std.proofs.Common.{List, [], ◌∷◌, ◌++◌, map, length, get_or, replicate, Some, decimal}
use Rattle.std.proofs.Common.{Option, sym, refl, ap, subst, ◌∙◌, inl, inr, arith}
use Rattle.std.specs.Option.{option_map}
use Rattle.std.proofs.lemmas.Bool.{eq-eqb, eqb-true, and_from, cases_lt}
use Rattle.std.proofs.lemmas.Bool.Decides.{nat_tests}
use Rattle.std.proofs.lemmas.List.{length-map, map-append, length_push, take_at, take-append-le}
use Rattle.std.proofs.lemmas.List.{get_or_append_left, get_or-append_right}
use Rattle.lists.specs.Lists.{every}
use Rattle.lists.proofs.Every.{every_rest}
use Rattle.columns.specs.Symbols.{is_letter}
use Rattle.columns.specs.Columns.{after_blanks, justified, number, up_to, number_in}
use Rattle.columns.specs.NumbersAreTexts.{IsJustified}
use Rattle.columns.proofs.Blanks.{justified_fits, justified_after_blanks}
use Rattle.columns.proofs.Numbers.{number_number_in, number_in_number, up_to_within, up_to_some}
use Rattle.columns.proofs.Numbers.{some_where}
use Rattle.columns.proofs.NumbersAreTexts.{is_justified}
use Rattle.items.specs.declared.Axis.{Axis}
use Rattle.items.specs.declared.Mark.{Mark}
use Rattle.items.specs.Words.{folded, letter_value, letter_of, word_from, word}
use Rattle.items.specs.Kinds.{axis_number, axis_text, axis_in, is_word}
use Rattle.items.specs.Kinds.{words, letters, mark_alike, mark_text, mark_in}
use Rattle.items.specs.Marks.{Word, word_parts, mark_in_lem}
use Rattle.items.specs.AxisExactLemmas.{axis_of}
use Rattle.items.specs.FieldsLemmas.{equal_true, eq_equal}
use Rattle.items.specs.Letters.{value_low, value_high, of_value, letter_of_lem, value_of}
use Rattle.items.specs.WordsLemmas.{most, word_letters, word_length, word_some, word_from_word}
use Rattle.items.specs.WordsLemmas.{word_from_some, word_from_most, word_of_word_from, after_word}
use Rattle.items.specs.ItemsAreTexts.{AxesAreTheirTexts, CaseIsIgnored, LettersAreNumbered}
use Rattle.items.specs.ItemsAreTexts.{DiffersFirst, PrecedesWord, MarksAreWords}
use Rattle.items.specs.ItemsAreTexts.{MarksAreTheirTexts}

-- axes

axis_back : (a : Axis) → number (axis_text a) ≡ Some (axis_number a)
axis_back a = number_number_in 8 (axis_number a) (omega arith) (omega arith) (omega arith)

axis_same : (a b : Axis) → axis_text a ≡ axis_text b → axis_number a ≡ axis_number b
axis_same a b e =
    let both : Some (axis_number a) ≡ Some (axis_number b) =
    sym (axis_back a) ∙ ap number e ∙ axis_back b in
    cc

axis_own :
    (a b : Axis) → a.number ≤ 65535 → b.number ≤ 65535 → axis_text a ≡ axis_text b →
    a.number ≡ b.number
axis_own a b ha hb e = let same = axis_same a b e in omega (arith, same)

axis_on : (a b : Axis) → a.number ≡ b.number + 65536 → axis_text a ≡ axis_text b
axis_on a b h = let same : axis_number a ≡ axis_number b = omega (arith, h) in ap (number_in 8) same

axis_written : (a : Axis) → a.number ≤ 65535 → IsJustified 8 (decimal a.number) (axis_text a)
axis_written a h =
    let e : a.number ≡ axis_number a = omega arith in
    subst (λ (n : ℕ). IsJustified 8 (decimal a.number) (number_in 8 n)) e
    (is_justified 8 (decimal a.number))

axis_read :
    (bs : List ℕ) (a : Axis) → length bs ≡ 8 → axis_in bs ≡ Some a →
    (a.number ≤ 65535) × (axis_text a ≡ bs)
axis_read bs a l e =
    let p = up_to_some 65535 (number bs) a.number (axis_of (up_to 65535 (number bs)) a e) in
    let same : axis_number a ≡ a.number = omega (arith, p.1) in (
      p.1,
      ap (number_in 8) same
          ∙ ap (λ (w : ℕ). number_in w a.number) (sym l)
          ∙ number_in_number bs a.number p.0 (omega (arith, p.1)),
    )

axis_found :
    (bs : List ℕ) (a : Axis) → (a.number ≤ 65535) × (axis_text a ≡ bs) → axis_in bs ≡ Some a
axis_found bs a p =
    let of : ℕ → Axis = λ m. record { number = m } in
    let small : a.number ≤ 65535 = p.0 in
    let same : axis_number a ≡ a.number = omega arith in
    let is : number bs ≡ Some a.number = ap number (sym p.1) ∙ axis_back a ∙ ap Some same in
    ap (λ (o : Option ℕ). option_map of (up_to 65535 o)) is
    ∙ ap (option_map of) (up_to_within 65535 a.number small)

pub axes_are_their_texts : AxesAreTheirTexts
axes_are_their_texts = record {
  alike = λ a b. (
    λ h. ap (number_in 8) (eqb-true (axis_number a) (axis_number b) h),
    λ e. eq-eqb (axis_number a) (axis_number b) (axis_same a b e),
  );
  own = axis_own;
  on = axis_on;
  written = axis_written;
  read = λ bs a l. (axis_read bs a l, axis_found bs a);
}

-- letters

other_case :
    (v w : ℕ) → 1 ≤ v → v ≤ 26 → 1 ≤ w → w ≤ 26 →
    folded (letter_of v) ≡ folded (letter_of (w + 26)) → v ≡ w
other_case v w a b c d e = grind (arith, nat_tests)

case_same : (v : ℕ) → 1 ≤ v → v ≤ 26 → folded (letter_of v) ≡ folded (letter_of (v + 26))
case_same v a b = grind (arith, nat_tests)

no_letter : (b c : ℕ) → is_letter b ≡ false → folded b ≡ folded c → b ≡ c
no_letter b c h e = grind (arith, nat_tests)

pub case_is_ignored : CaseIsIgnored
case_is_ignored = record {
  cases = λ v w a b c d. (
    other_case v w a b c d,
    λ e. case_same v a b ∙ ap (λ (x : ℕ). folded (letter_of (x + 26))) e,
  );
  others = no_letter;
}

letter_from : (b : ℕ) → ((v : ℕ) × (1 ≤ v) × (v ≤ 52) × (letter_of v ≡ b)) → is_letter b ≡ true
letter_from b p = ap is_letter (sym p.3) ∙ letter_of_lem p.0 p.1 p.2

letter_rises : (v w : ℕ) → 1 ≤ v → v < w → w ≤ 52 → letter_of v < letter_of w
letter_rises v w a b c = grind (arith, nat_tests)

pub letters_are_numbered : LettersAreNumbered
letters_are_numbered = record {
  all = λ b. (
    λ h. (letter_value b, value_low b h, value_high b h, of_value b h),
    letter_from b,
  );
  order = letter_rises;
  value = value_of;
}

-- words

mark_word : (m : Mark) → Word (letters m)
mark_word m =
    let n = m.number % words + 1 in
    record {
      some = word_some 8 n (omega arith) (omega arith);
      fits = word_length 8 n;
      all = word_letters 8 n;
    }

-- the mark of a word
mark_of : List ℕ → Mark
mark_of w = record { number = word_from 0 w - 1 }

mark_of_least :
    (w : List ℕ) → Word w →
    (word_from 0 w - 1 < words) × (word_from 0 w ≡ (word_from 0 w - 1) % words + 1)
mark_of_least w is =
    let low = word_from_some w is.some is.all in
    let high = word_from_most w 8 is.all is.fits in
    (omega arith, omega arith)

mark_all : (w : List ℕ) → Word w → (m : Mark) × (m.number < words) × (letters m ≡ w)
mark_all w is =
    let m : Mark = record { number = word_from 0 w - 1 } in
    let p = mark_of_least w is in
    (m, p.0, ap (word 8) (sym p.1) ∙ word_of_word_from w 8 is.all is.fits)

mark_one :
    (m n : Mark) → m.number < words → n.number < words → letters m ≡ letters n → m.number ≡ n.number
mark_one m n a b e =
    let back = word_from_word 8 (m.number % words + 1) (omega arith) in
    let there = word_from_word 8 (n.number % words + 1) (omega arith) in
    let same : m.number % words + 1 ≡ n.number % words + 1 =
    sym back ∙ ap (word_from 0) e ∙ there in
    omega arith

-- the order of words

ends_less : (v w : List ℕ) (x y : ℕ) → v ≡ w → x < y → DiffersFirst (v ++ x ∷ []) (w ++ y ∷ [])
ends_less v w x y e h =
    let one = length_push v x in
    let mine : get_or (v ++ x ∷ []) (length v) 0 ≡ x = last v x in
    let theirs : get_or (w ++ y ∷ []) (length v) 0 ≡ y =
    ap (λ (xs : List ℕ). get_or (xs ++ y ∷ []) (length v) 0) (sym e) ∙ last v y in
    record {
      index = length v;
      within = omega (arith, one);
      front =
          take_at v (x ∷ []) (length v) refl
          ∙ e
          ∙ sym (take_at w (y ∷ []) (length v) (ap length (sym e)));
      less = omega (arith, mine, theirs, h);
    }
  where
    last : (xs : List ℕ) (z : ℕ) → get_or (xs ++ z ∷ []) (length xs) 0 ≡ z
    last xs z =
        let none : length xs - length xs ≡ 0 = omega arith in
        get_or-append_right xs (z ∷ []) (length xs) (length xs) 0 refl (omega arith)
        ∙ ap (λ (i : ℕ). get_or (z ∷ []) i 0) none

differs_more :
    (v w : List ℕ) (x y : ℕ) → length v ≡ length w → DiffersFirst v w →
    DiffersFirst (v ++ x ∷ []) (w ++ y ∷ [])
differs_more v w x y e d =
    let i = d.index in
    let within = d.within in
    let one = length_push v x in
    let mine = get_or_append_left v (x ∷ []) 0 i within in
    let theirs = get_or_append_left w (y ∷ []) 0 i (omega arith) in
    record {
      index = i;
      within = omega arith;
      front =
          take-append-le i v (x ∷ []) (omega arith)
          ∙ d.front
          ∙ sym (take-append-le i w (y ∷ []) (omega arith));
      less = omega (arith, mine, theirs, d.less);
    }

-- one letter more after words in order
precedes_more :
    (v w : List ℕ) (x y : ℕ) → PrecedesWord v w → PrecedesWord (v ++ x ∷ []) (w ++ y ∷ [])
precedes_more v w x y (inl l) = inl (omega (arith, length_push v x, length_push w y))
precedes_more v w x y (inr p) =
    inr (omega (arith, p.0, length_push v x, length_push w y), differs_more v w x y p.0 p.1)

word_precedes : (k m n : ℕ) → m < n → n ≤ most k → PrecedesWord (word k m) (word k n)
word_precedes zero m n l h = absurd (omega arith)
word_precedes (suc k) m zero l h = absurd (omega arith)
word_precedes (suc k) zero (suc n) l h = inl (word_some (suc k) (suc n) (omega arith) (omega arith))
word_precedes (suc k) (suc m) (suc n) l h =
    let x = letter_of (m % 52 + 1) in
    let y = letter_of (n % 52 + 1) in
    elim (cases_lt (m / 52) (n / 52)) [
      | inl less ↦
          precedes_more (word k (m / 52)) (word k (n / 52)) x y
          (word_precedes k (m / 52) (n / 52) less (omega arith))
      | inr more ↦
          let same : m / 52 ≡ n / 52 = omega arith in
          let rises : x < y =
          letter_rises (m % 52 + 1) (n % 52 + 1) (omega arith) (omega arith) (omega arith) in
          let e = ap (word k) same in
          inr (
            length_push (word k (m / 52)) x
                ∙ ap (λ (xs : List ℕ). length xs + 1) e
                ∙ sym (length_push (word k (n / 52)) y),
            ends_less (word k (m / 52)) (word k (n / 52)) x y e rises,
          )
    ]

mark_order :
    (m n : Mark) → m.number < n.number → n.number < words → PrecedesWord (letters m) (letters n)
mark_order m n l h =
    word_precedes 8 (m.number % words + 1) (n.number % words + 1) (omega arith) (omega arith)

mark_on : (m n : Mark) → m.number ≡ n.number + words → letters m ≡ letters n
mark_on m n e =
    let same : m.number % words + 1 ≡ n.number % words + 1 = omega arith in
    ap (word 8) same

pub marks_are_words : MarksAreWords
marks_are_words = record {
  is = mark_word;
  all = mark_all;
  one = mark_one;
  order = mark_order;
  on = mark_on;
}

-- marks

folded_letter : (b : ℕ) → is_letter b ≡ true → is_letter (folded b) ≡ true
folded_letter b h = grind (arith, nat_tests)

folded_letters : (bs : List ℕ) → every is_letter bs ≡ true → every is_letter (map folded bs) ≡ true
folded_letters [] h = refl
folded_letters (b ∷ bs) h =
    let p = every_rest is_letter b bs h in
    and_from (is_letter (folded b)) (every is_letter (map folded bs)) (folded_letter b p.0)
    (folded_letters bs p.1)

folded_blanks : (n : ℕ) → map folded (replicate n 32) ≡ replicate n 32
folded_blanks zero = refl
folded_blanks (suc n) = ap (λ (xs : List ℕ). 32 ∷ xs) (folded_blanks n)

-- a text with case ignored is the letters with case ignored, after blanks
folded_text : (w : List ℕ) → length w ≤ 8 → map folded (justified 8 w) ≡ justified 8 (map folded w)
folded_text w h =
    let same : length (map folded w) ≡ length w = length-map w folded in
    ap (map folded) (justified_fits 8 w h)
    ∙ map-append folded (replicate (8 - length w) 32) w
    ∙ (λ i. folded_blanks (8 - length w) i ++ map folded w)
    ∙ ap (λ (n : ℕ). replicate (8 - n) 32 ++ map folded w) (sym same)
    ∙ sym (justified_fits 8 (map folded w) (omega arith))

folded_after : (w : List ℕ) → Word w → after_blanks (map folded (justified 8 w)) ≡ map folded w
folded_after w is =
    let same : length (map folded w) ≡ length w = length-map w folded in
    let fits = is.fits in
    ap after_blanks (folded_text w is.fits)
    ∙ after_word 8 (map folded w) (folded_letters w is.all) (omega arith)

alike_to :
    (a b : Mark) → mark_alike a b ≡ true → map folded (mark_text a) ≡ map folded (mark_text b)
alike_to a b h =
    let same = equal_true (map folded (letters a)) (map folded (letters b)) h in
    folded_text (letters a) (mark_word a).fits
    ∙ ap (justified 8) same
    ∙ sym (folded_text (letters b) (mark_word b).fits)

alike_from :
    (a b : Mark) → map folded (mark_text a) ≡ map folded (mark_text b) → mark_alike a b ≡ true
alike_from a b e =
    eq_equal (map folded (letters a)) (map folded (letters b))
    (sym (folded_after (letters a) (mark_word a))
    ∙ ap after_blanks e
    ∙ folded_after (letters b) (mark_word b))

mark_read :
    (bs : List ℕ) (m : Mark) → length bs ≡ 8 → mark_in bs ≡ Some m →
    (m.number < words) × (mark_text m ≡ bs)
mark_read bs m l e =
    let w = after_blanks bs in
    let p = some_where (is_word w) (record { number = word_from 0 w - 1 }) m e in
    let is = word_parts w p.0 in
    let q = mark_of_least w is in
    let same : word_from 0 w - 1 ≡ m.number = ap (λ (x : Mark). x.number) p.1 in
    let of : m.number % words + 1 ≡ word_from 0 w =
    ap (λ (n : ℕ). n % words + 1) (sym same) ∙ sym q.1 in (
      subst (λ (n : ℕ). n < words) same q.0,
      ap (λ (n : ℕ). justified 8 (word 8 n)) of
          ∙ ap (justified 8) (word_of_word_from w 8 is.all is.fits)
          ∙ ap (λ (n : ℕ). justified n w) (sym l)
          ∙ justified_after_blanks bs,
    )

mark_found :
    (bs : List ℕ) (m : Mark) → (m.number < words) × (mark_text m ≡ bs) → mark_in bs ≡ Some m
mark_found bs m p =
    let n : ℕ = m.number % words + 1 in
    let w : List ℕ = letters m in
    let is = mark_word m in
    let small : m.number < words = p.0 in
    let same : n - 1 ≡ m.number = omega arith in
    let of : ℕ → Mark = λ x. record { number = x } in
    ap mark_in (sym p.1)
    ∙ mark_in_lem (mark_text m) w n (after_word 8 w is.all is.fits) is
    (word_from_word 8 n (omega arith))
    ∙ ap (λ (x : ℕ). Some (of x)) same

pub marks_are_their_texts : MarksAreTheirTexts
marks_are_their_texts = record {
  alike = λ a b. (alike_to a b, alike_from a b);
  written = λ m. is_justified 8 (letters m);
  read = λ bs m l. (mark_read bs m l, mark_found bs m);
}
