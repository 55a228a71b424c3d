-- Digits and letters, and numbers in columns, by what is written.
use Rattle.std.proofs.Common.{◌≡◌, ℕ, suc, ◌+◌, ◌-◌, ◌^◌, ◌<◌, ◌≤◌, Bool, true, false, cond, eqb}
use Rattle.std.proofs.Common.{List, [], ◌∷◌, ◌++◌, length, take, drop, replicate, Some, None}
use Rattle.std.proofs.Common.{decimal, Option, sym, refl, ap, subst, ◌∙◌, inl, inr, arith}
use Rattle.std.specs.Prelude.{◌≢◌, ◌↔◌}
use Rattle.std.specs.List.{slice_get}
use Rattle.std.specs.Char.{to_ascii_lowercase, to_ascii_uppercase}
use Rattle.std.proofs.lemmas.Bool.{eqb-true, eqb-false, cases_Bool, cond-true, cond-false}
use Rattle.std.proofs.lemmas.Bool.{cases_lt}
use Rattle.std.proofs.lemmas.Bool.Decides.{nat_tests}
use Rattle.std.proofs.lemmas.Str.Parse.{digits_value_short}
use Rattle.std.proofs.lemmas.Fmt.{decimal_digit, digits_value-decimal, decimal-digits_value}
use Rattle.std.proofs.lemmas.List.{take-append-drop, drop-drop, drop_at, length-replicate}
use Rattle.std.proofs.lemmas.List.{length-append}
use Rattle.columns.specs.Symbols.{is_digit, is_upper, is_lower, is_letter}
use Rattle.columns.specs.Columns.{after_blanks, justified, well_written, value_from, number, up_to}
use Rattle.columns.specs.NumbersAreTexts.{BlanksThen, IsJustified, DigitsAndLetters}
use Rattle.columns.specs.NumbersAreTexts.{TextsAreJustified, NumbersAreTheirTexts}
use Rattle.columns.proofs.Blanks.{no_blanks, after_blanks_le, after_blanks_replicate}
use Rattle.columns.proofs.Blanks.{justified_fits, length_justified}
use Rattle.columns.proofs.Numbers.{own, well_parts, well_from, decimal_well, some_where}
use Rattle.columns.proofs.Numbers.{up_to_some, up_to_within}

-- digits and letters

digit_to : (b : ℕ) → is_digit b ≡ true → (n : ℕ) × (n < 10) × (decimal n ≡ b ∷ [])
digit_to b h =
    let low : 48 ≤ b = grind (arith, nat_tests) in
    let high : b ≤ 57 = grind (arith, nat_tests) in
    let e : 48 + (b - 48) ≡ b = omega arith in
    (b - 48, omega arith, decimal_digit (b - 48) (omega arith) ∙ ap (λ (x : ℕ). x ∷ []) e)

digit_from : (b : ℕ) → ((n : ℕ) × (n < 10) × (decimal n ≡ b ∷ [])) → is_digit b ≡ true
digit_from b p =
    let n = p.0 in
    let less : n < 10 = p.1 in
    let both : ◌≡◌ {A = List ℕ} ((48 + n) ∷ []) (b ∷ []) = sym (decimal_digit n less) ∙ p.2 in
    let e : 48 + n ≡ b = cc in
    grind (arith, nat_tests)

capital_to : (b : ℕ) → is_upper b ≡ true → to_ascii_lowercase b ≢ b
capital_to b h e = grind (arith, nat_tests)

not_capital : (b : ℕ) → is_upper b ≡ false → to_ascii_lowercase b ≡ b
not_capital b h = grind (arith, nat_tests)

small_to : (b : ℕ) → is_lower b ≡ true → to_ascii_uppercase b ≢ b
small_to b h e = grind (arith, nat_tests)

not_small : (b : ℕ) → is_lower b ≡ false → to_ascii_uppercase b ≡ b
not_small b h = grind (arith, nat_tests)

letter_to : (b : ℕ) → is_letter b ≡ true → to_ascii_lowercase b ≢ to_ascii_uppercase b
letter_to b h e = grind (arith, nat_tests)

not_letter : (b : ℕ) → is_letter b ≡ false → to_ascii_lowercase b ≡ to_ascii_uppercase b
not_letter b h = grind (arith, nat_tests)

-- a test passes where what follows from its failing does not hold
unless : {X : Type 0} (t : Bool) (x y : X) → (t ≡ false → x ≡ y) → (x ≢ y) → t ≡ true
unless true x y f d = refl
unless false x y f d = absurd (d (f refl))

digits_told : (b : ℕ) → (is_digit b ≡ true) ↔ ((n : ℕ) × (n < 10) × (decimal n ≡ b ∷ []))
digits_told b = (digit_to b, digit_from b)

letters_told : (b : ℕ) → (is_letter b ≡ true) ↔ (to_ascii_lowercase b ≢ to_ascii_uppercase b)
letters_told b = (
  letter_to b,
  unless (is_letter b) (to_ascii_lowercase b) (to_ascii_uppercase b) (not_letter b),
)

pub digits_and_letters : DigitsAndLetters
digits_and_letters = record {
  digit = digits_told;
  capital = λ b. (capital_to b, unless (is_upper b) (to_ascii_lowercase b) b (not_capital b));
  small = λ b. (small_to b, unless (is_lower b) (to_ascii_uppercase b) b (not_small b));
  letter = letters_told;
  by_digit = digits_told;
  by_letter = letters_told;
}

-- texts in columns

blanks_after : (bs : List ℕ) → BlanksThen (after_blanks bs) bs
blanks_after [] = (0, refl)
blanks_after (b ∷ bs) =
    let p = blanks_after bs in
    elim (cases_Bool (eqb b 32)) [
      | inl e ↦
          let is = cond-true (eqb b 32) (after_blanks bs) (b ∷ bs) e in (
            suc p.0,
            (λ i. eqb-true b 32 e i ∷ p.1 i)
                ∙ ap (λ (xs : List ℕ). 32 ∷ (replicate p.0 32 ++ xs)) (sym is),
          )
      | inr e ↦ (0, sym (cond-false (eqb b 32) (after_blanks bs) (b ∷ bs) e))
    ]

no_blank_first : (bs : List ℕ) → slice_get (after_blanks bs) 0 ≢ Some 32
no_blank_first [] h = cc
no_blank_first (b ∷ bs) h =
    elim (cases_Bool (eqb b 32)) [
      | inl e ↦
          let is = cond-true (eqb b 32) (after_blanks bs) (b ∷ bs) e in
          no_blank_first bs (ap (λ (xs : List ℕ). slice_get xs 0) (sym is) ∙ h)
      | inr e ↦
          let is = cond-false (eqb b 32) (after_blanks bs) (b ∷ bs) e in
          let both : Some b ≡ Some 32 = ap (λ (xs : List ℕ). slice_get xs 0) (sym is) ∙ h in
          eqb-false b 32 e cc
    ]

-- as many bytes as the text has are dropped: w blanks, and then bytes of the text
drop_more :
    (w : ℕ) (text : List ℕ) → w ≤ length text →
    drop (length text) (replicate w 32 ++ text) ≡ drop (length text - w) text
drop_more w text h =
    let e : length text ≡ w + (length text - w) = omega arith in
    ap (λ (n : ℕ). drop n (replicate w 32 ++ text)) e
    ∙ sym (drop-drop (length text - w) w (replicate w 32 ++ text))
    ∙ ap (drop (length text - w)) (drop_at (replicate w 32) text w (length-replicate w 32))

pub is_justified : (w : ℕ) (text : List ℕ) → IsJustified w text (justified w text)
is_justified w text = record {
  wide = length_justified w text;
  fits = λ h. (w - length text, justified_fits w text h);
  short = λ h.
      let n = length text - w in (
        take n text,
        sym (ap (λ (xs : List ℕ). take n text ++ xs) (drop_more w text h)
            ∙ take-append-drop n text),
      );
}

last_bytes :
    (text : List ℕ) (w : ℕ) (xs : List ℕ) → w ≤ length text → length xs ≡ w →
    ((front : List ℕ) × (text ≡ front ++ xs)) → xs ≡ drop (length text - w) text
last_bytes text w xs h wide p =
    let long : length text ≡ length p.0 + length xs = ap length p.1 ∙ length-append p.0 xs in
    let at : length p.0 ≡ length text - w = omega (arith, wide, long) in
    sym (ap (drop (length text - w)) p.1 ∙ drop_at p.0 xs (length text - w) at)

-- a field that is right-justified is the text in columns
pub only_justified :
    (w : ℕ) (text field : List ℕ) → IsJustified w text field → field ≡ justified w text
only_justified w text field j =
    elim (cases_lt w (length text)) [
      | inl l ↦
          let h : w ≤ length text = omega arith in
          last_bytes text w field h j.wide (j.short h)
          ∙ sym (last_bytes text w (justified w text) h (length_justified w text)
          ((is_justified w text).short h))
      | inr l ↦
          let p = j.fits l in
          let long : length field ≡ length (replicate p.0 32) + length text =
          ap length p.1 ∙ length-append (replicate p.0 32) text in
          let blanks = length-replicate {A = ℕ} p.0 32 in
          let at : p.0 ≡ w - length text = omega (arith, j.wide, long, blanks) in
          p.1
          ∙ ap (λ (n : ℕ). replicate n 32 ++ text) at
          ∙ sym (justified_fits w text l)
    ]

pub texts_are_justified : TextsAreJustified
texts_are_justified = record {
  after = blanks_after;
  begins = no_blank_first;
  written = is_justified;
}

-- numbers

holds_to : (bs : List ℕ) (n : ℕ) → n < 2 ^ 64 → number bs ≡ Some n → BlanksThen (decimal n) bs
holds_to bs n h e =
    let ds = after_blanks bs in
    let p = some_where (well_written ds) (value_from 0 ds) n e in
    let well = well_parts ds p.0 in
    let small : value_from 0 ds < 2 ^ 64 = omega (arith, p.1) in
    let same : decimal n ≡ ds =
    ap decimal (sym p.1) ∙ decimal-digits_value own ds well.digits well.some well.lead small in
    let q = blanks_after bs in
    (q.0, q.1 ∙ ap (λ (xs : List ℕ). replicate q.0 32 ++ xs) (sym same))

holds_from : (bs : List ℕ) (n : ℕ) → n < 2 ^ 64 → BlanksThen (decimal n) bs → number bs ≡ Some n
holds_from bs n h p =
    let ds = decimal n in
    let well = decimal_well n h in
    let after : after_blanks bs ≡ ds =
    ap after_blanks p.1 ∙ after_blanks_replicate p.0 ds ∙ no_blanks is_digit ds refl well.digits in
    ap (λ (xs : List ℕ). cond (well_written xs) (Some (value_from 0 xs)) None) after
    ∙ ap (λ (t : Bool). cond t (Some (value_from 0 ds)) None) (well_from ds well)
    ∙ ap Some (digits_value-decimal own n h)

number_below : (bs : List ℕ) (n : ℕ) → number bs ≡ Some n → n < 10 ^ length bs
number_below bs n e =
    let ds = after_blanks bs in
    let p = some_where (well_written ds) (value_from 0 ds) n e in
    let less : value_from 0 ds < 10 ^ length bs =
    digits_value_short own ds (length bs) (well_parts ds p.0).digits (after_blanks_le bs) in
    subst (λ (m : ℕ). m < 10 ^ length bs) p.1 less

up_to_lem : (m : ℕ) (o : Option ℕ) (n : ℕ) → ((o ≡ Some n) × (n ≤ m)) → up_to m o ≡ Some n
up_to_lem m o n p = ap (up_to m) p.0 ∙ up_to_within m n p.1

pub numbers_are_their_texts : NumbersAreTheirTexts
numbers_are_their_texts = record {
  holds = λ bs n h. (holds_to bs n h, holds_from bs n h);
  below = number_below;
  most = λ m o n. (up_to_some m o n, up_to_lem m o n);
  written = λ w n. is_justified w (decimal n);
}
