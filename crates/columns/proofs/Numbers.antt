-- Decimal numbers in columns. Assumes nothing.
use Rattle.std.proofs.Common.{◌≡◌, ℕ, suc, ◌+◌, ◌-◌, ◌*◌, ◌/◌, ◌%◌, ◌^◌, ◌<◌, ◌≤◌, Bool, true, false, cond, not, ◌&&◌, eqb, ltb, leb, List, [], ◌∷◌, ◌++◌, length, get_or, drop, set, replicate, Some, None, decimal, Option, sym, refl, ap, ◌∙◌, inl, inr, append_assoc, add-one, arith, rules}
use Rattle.std.proofs.lemmas.Str.Parse.{IsNumeralModel, numerals_by_fold, digits_value_short}
use Rattle.std.proofs.lemmas.Fmt.{decimal_nonempty, first_decimal, decimal_digit, decimal_step, length-decimal-le, digits_decimal, digits_value-decimal, decimal-digits_value}
use Rattle.std.proofs.lemmas.List.{at_drop_more, at_drop_all, drop-set, replicate_more}
use Rattle.std.proofs.lemmas.Bool.{false≢true, and_parts, and_from, and_left, and_right, eqb-false, eq-eqb, ne_eqb, not-true, not_from_false, leb-true, lt-leb, le-leb, lt-ltb, le-ltb, cases_Bool, cases_lt, cases_eq, cond-true, cond-false}
use Rattle.lists.specs.Lists.{every}
use Rattle.columns.specs.Symbols.{is_digit}
use Rattle.columns.specs.Columns.{after_blanks, justified, well_written, value_from, digits_from, number, up_to, number_in}
use Rattle.columns.proofs.Blanks.{no_blanks, after_blanks_le, after_blanks_justified, justified_after_blanks, justified_push, justified_none, justified_zero}

-- all digits, and their value, are the library's words too
pub own : IsNumeralModel (λ ds. every is_digit ds ≡ true) (value_from 0)
own = numerals_by_fold _ (search rules) value_from (search rules)

-- digits, some, and a leading zero only alone
pub record Well (ds : List ℕ) : Type 0 where
  pub digits : every is_digit ds ≡ true
  pub some : 0 < length ds
  pub lead : get_or ds 0 0 ≡ 48 → length ds ≡ 1

pub well_parts : (ds : List ℕ) → well_written ds ≡ true → Well ds
well_parts [] e = absurd (false≢true e)
well_parts (d ∷ []) e = record { digits = and_from _ _ e refl; some = omega arith; lead = λ _. refl }
well_parts (d ∷ f ∷ ds) e =
    let p = and_parts (not (eqb d 48)) (every is_digit (d ∷ f ∷ ds)) e in
    record { digits = p.1; some = omega arith; lead = λ is. absurd (eqb-false d 48 (not-true _ p.0) is) }

pub well_from : (ds : List ℕ) → Well ds → well_written ds ≡ true
well_from [] w = absurd (omega (arith, w.some))
well_from (d ∷ []) w = (and_parts _ _ w.digits).0
well_from (d ∷ f ∷ ds) w =
    and_from (not (eqb d 48)) _ (not_from_false _ (ne_eqb d 48 (λ is. let one = w.lead is in omega arith))) w.digits

-- what is written of a number
pub decimal_well : (n : ℕ) → n < 2 ^ 64 → Well (decimal n)
decimal_well n h = record {
  digits = digits_decimal own n h;
  some = decimal_nonempty n h;
  lead = λ is.
      elim (cases_lt 0 n) [
        | inl pos ↦ let big = first_decimal n pos h in absurd (omega arith)
        | inr none ↦ let zero' : n ≡ 0 = omega arith in ap (λ (m : ℕ). length (decimal m)) zero' ∙ ap length (decimal_digit 0 (omega arith))
      ];
}

-- a number that fits its columns is read again
pub number_number_in : (w n : ℕ) → 0 < w → n < 10 ^ w → n < 2 ^ 64 → number (number_in w n) ≡ Some n
number_number_in w n some fits h =
    let ds = decimal n in
    let well = decimal_well n h in
    let after : after_blanks (number_in w n) ≡ ds = after_blanks_justified w ds (length-decimal-le w n some fits h) (no_blanks is_digit ds refl well.digits) in
    ap (λ (xs : List ℕ). cond (well_written xs) (Some (value_from 0 xs)) None) after
    ∙ ap (λ (t : Bool). cond t (Some (value_from 0 ds)) None) (well_from ds well)
    ∙ ap Some (digits_value-decimal own n h)

-- something, or nothing, where a test said so
pub some_where : {X : Type 0} (t : Bool) (x y : X) → cond t (Some x) None ≡ Some y → (t ≡ true) × (x ≡ y)
some_where true x y e = (refl, cc)
some_where false x y e = absurd (let z : ◌≡◌ {A = ℕ} 0 1 = cc in omega arith)

pub none_where : {X : Type 0} (t : Bool) (x : X) → cond t (Some x) None ≡ None → t ≡ false
none_where true x e = absurd (let z : ◌≡◌ {A = ℕ} 0 1 = cc in omega arith)
none_where false x e = refl

-- a field that holds a number is what is written of it
pub number_in_number : (bs : List ℕ) (n : ℕ) → number bs ≡ Some n → n < 2 ^ 64 → number_in (length bs) n ≡ bs
number_in_number bs n e h =
    let ds = after_blanks bs in
    let p = some_where (well_written ds) (value_from 0 ds) n e in
    let well = well_parts ds p.0 in
    let small : value_from 0 ds < 2 ^ 64 = omega (arith, p.1) in
    ap (λ (m : ℕ). justified (length bs) (decimal m)) (sym p.1)
    ∙ ap (justified (length bs)) (decimal-digits_value own ds well.digits well.some well.lead small)
    ∙ justified_after_blanks bs

-- Reading digits one by one

pub digit_more : (n : ℕ) (ds : List ℕ) (i : ℕ) → i < length ds → is_digit (get_or ds i 0) ≡ true → digits_from n (drop i ds) ≡ digits_from (n * 10 + (get_or ds i 0 - 48)) (drop (i + 1) ds)
digit_more n ds i h is =
    at_drop_more (digits_from n) ds i 0 h
    ∙ ap (λ (t : Bool). cond (t && every is_digit (drop (i + 1) ds)) (Some (value_from (n * 10 + (get_or ds i 0 - 48)) (drop (i + 1) ds))) None) is

pub digit_stop : (n : ℕ) (ds : List ℕ) (i : ℕ) → i < length ds → is_digit (get_or ds i 0) ≡ false → digits_from n (drop i ds) ≡ None
digit_stop n ds i h out =
    let d = get_or ds i 0 in
    at_drop_more (digits_from n) ds i 0 h
    ∙ ap (λ (t : Bool). cond (t && every is_digit (drop (i + 1) ds)) (Some (value_from (n * 10 + (d - 48)) (drop (i + 1) ds))) None) out

pub digit_end : (n : ℕ) (ds : List ℕ) (i : ℕ) → length ds ≤ i → digits_from n (drop i ds) ≡ Some n
digit_end n ds i h = at_drop_all (digits_from n) ds i h

value_from_ge : (n : ℕ) (ds : List ℕ) → n ≤ value_from n ds
value_from_ge n [] = omega arith
value_from_ge n (d ∷ ds) = let more = value_from_ge (n * 10 + (d - 48)) ds in omega arith

-- past the most, more digits do not help
pub digits_over : (most n : ℕ) (ds : List ℕ) → most < n → up_to most (digits_from n ds) ≡ None
digits_over most n ds over =
    let more = value_from_ge n ds in
    elim (cases_Bool (every is_digit ds)) [
      | inl e ↦
          ap (λ (t : Bool). up_to most (cond t (Some (value_from n ds)) None)) e
          ∙ cond-false (leb (value_from n ds) most) _ _ (lt-leb (value_from n ds) most (omega arith))
      | inr e ↦ ap (λ (t : Bool). up_to most (cond t (Some (value_from n ds)) None)) e
    ]

pub up_to_within : (most n : ℕ) → n ≤ most → up_to most (Some n) ≡ Some n
up_to_within most n h = cond-true (leb n most) _ _ (le-leb n most h)

pub up_to_some : (most : ℕ) (o : Option ℕ) (n : ℕ) → up_to most o ≡ Some n → (o ≡ Some n) × (n ≤ most)
up_to_some most None n e = absurd (let z : ◌≡◌ {A = ℕ} 0 1 = cc in omega arith)
up_to_some most (Some m) n e =
    let p = some_where (leb m most) m n e in
    (ap Some p.1, omega (arith, leb-true m most p.0, p.1))

-- Writing a number from its last digit on

pub number_in_digit : (w k n : ℕ) → k + 1 ≡ w → n < 10 → number_in w n ≡ replicate k 32 ++ (48 + n % 10) ∷ []
number_in_digit w k n more h =
    let next : w ≡ suc k = omega arith in
    let same : n ≡ n % 10 = omega arith in
    ap (λ (a : ℕ). number_in a n) next
    ∙ ap (justified (suc k)) (decimal_digit n h)
    ∙ justified_push k [] (48 + n)
    ∙ (λ i. justified_none k i ++ (48 + same i) ∷ [])

pub number_in_more : (w k n : ℕ) → k + 1 ≡ w → 10 ≤ n → n < 2 ^ 64 → number_in w n ≡ number_in k (n / 10) ++ (48 + n % 10) ∷ []
number_in_more w k n more big h =
    let next : w ≡ suc k = omega arith in
    ap (λ (a : ℕ). number_in a n) next ∙ ap (justified (suc k)) (decimal_step n big h) ∙ justified_push k (decimal (n / 10)) (48 + n % 10)

-- Writing digits from the last column on

-- what is to come in the first a of w columns, with n left of the number
abbrev pub front : ℕ → ℕ → ℕ → List ℕ
front a w n = cond (eqb n 0 && ltb a w) (replicate a 32) (number_in a n)

digit_in : (a n : ℕ) → n < 10 → number_in (suc a) n ≡ replicate a 32 ++ (48 + n) ∷ []
digit_in a n h =
    ap (justified (suc a)) (decimal_digit n h) ∙ justified_push a [] (48 + n) ∙ ap (λ (xs : List ℕ). xs ++ (48 + n) ∷ []) (justified_none a)

blank_in : (a w : ℕ) → suc a < w → front (suc a) w 0 ≡ front a w 0 ++ 32 ∷ []
blank_in a w h =
    cond-true (eqb 0 0 && ltb (suc a) w) _ _ (and_from (eqb 0 0) _ refl (lt-ltb (suc a) w h))
    ∙ sym (replicate_more a 32 ∙ ap (λ (n : ℕ). replicate n 32) (add-one a))
    ∙ ap (λ (xs : List ℕ). xs ++ 32 ∷ []) (sym (cond-true (eqb 0 0 && ltb a w) (replicate a 32) (number_in a 0) (and_from (eqb 0 0) _ refl (lt-ltb a w (omega arith)))))

digit_at : (a w n : ℕ) → suc a ≤ w → (n ≡ 0 → suc a ≡ w) → n < 2 ^ 64 → front (suc a) w n ≡ front a w (n / 10) ++ (48 + n % 10) ∷ []
digit_at a w n within last h =
    let shut : (eqb n 0 && ltb (suc a) w) ≡ false =
    elim (cases_eq n 0) [
      | inl z ↦ and_right (eqb n 0) _ (le-ltb (suc a) w (omega (arith, last z)))
      | inr ne ↦ and_left (eqb n 0) _ (ne_eqb n 0 ne)
    ] in
    cond-false (eqb n 0 && ltb (suc a) w) (replicate (suc a) 32) (number_in (suc a) n) shut
    ∙ elim (cases_lt n 10) [
      | inl small ↦
          let none : n / 10 ≡ 0 = omega arith in
          let same : n % 10 ≡ n = omega arith in
          digit_in a n small
          ∙ ap (λ (m : ℕ). replicate a 32 ++ (48 + m) ∷ []) (sym same)
          ∙ ap (λ (xs : List ℕ). xs ++ (48 + n % 10) ∷ [])
          (sym (cond-true (eqb (n / 10) 0 && ltb a w) (replicate a 32) (number_in a (n / 10)) (and_from _ _ (eq-eqb (n / 10) 0 none) (lt-ltb a w (omega arith)))))
      | inr big ↦
          let some : n / 10 ≡ 0 → ⊥ = λ z. omega arith in
          ap (justified (suc a)) (decimal_step n big h)
          ∙ justified_push a (decimal (n / 10)) (48 + n % 10)
          ∙ ap (λ (xs : List ℕ). xs ++ (48 + n % 10) ∷ [])
          (sym (cond-false (eqb (n / 10) 0 && ltb a w) (replicate a 32) (number_in a (n / 10)) (and_left _ _ (ne_eqb (n / 10) 0 some))))
    ]

pub front_blank : (at w n : ℕ) → 0 < at → at < w → n ≡ 0 → front at w n ≡ front (at - 1) w (n / 10) ++ 32 ∷ []
front_blank at w n some within none =
    let next : at ≡ suc (at - 1) = omega arith in
    let rest : 0 ≡ n / 10 = omega arith in
    (λ i. front (next i) w (none i)) ∙ blank_in (at - 1) w (omega arith) ∙ ap (λ (m : ℕ). front (at - 1) w m ++ 32 ∷ []) rest

pub front_digit : (at w n : ℕ) → 0 < at → at ≤ w → (n ≡ 0 → at ≡ w) → n < 2 ^ 64 → front at w n ≡ front (at - 1) w (n / 10) ++ (48 + n % 10) ∷ []
front_digit at w n some within last h =
    let next : at ≡ suc (at - 1) = omega arith in
    ap (λ (k : ℕ). front k w n) next ∙ digit_at (at - 1) w n (omega arith) (λ none. omega (arith, last none)) h

-- one column more is written
pub column_more : (rest more : List ℕ) (b at : ℕ) (field whole : List ℕ) → 0 < at → at ≤ length field → rest ≡ more ++ b ∷ [] → rest ++ drop at field ≡ whole → more ++ drop (at - 1) (set field (at - 1) b) ≡ whole
column_more rest more b at field whole some within e h =
    let same : at - 1 + 1 ≡ at = omega arith in
    ap (λ (xs : List ℕ). more ++ xs) (drop-set field (at - 1) b (omega arith) ∙ ap (λ (n : ℕ). b ∷ drop n field) same)
    ∙ sym (append_assoc more (b ∷ []) (drop at field))
    ∙ ap (λ (xs : List ℕ). xs ++ drop at field) (sym e)
    ∙ h

-- at the start all is to come, and at the end nothing
pub front_whole : (w n : ℕ) → front w w n ≡ number_in w n
front_whole w n = cond-false (eqb n 0 && ltb w w) (replicate w 32) (number_in w n) (and_right (eqb n 0) _ (le-ltb w w (omega arith)))

pub front_zero : (w n : ℕ) → front 0 w n ≡ []
front_zero w n =
    elim (cases_Bool (eqb n 0 && ltb 0 w)) [
      | inl e ↦ cond-true (eqb n 0 && ltb 0 w) [] (number_in 0 n) e
      | inr e ↦ cond-false (eqb n 0 && ltb 0 w) [] (number_in 0 n) e ∙ justified_zero (decimal n)
    ]

-- the number in a field of k columns has at most k digits
pub number_fits : (k : ℕ) (bs : List ℕ) → length bs ≤ k → up_to (10 ^ k - 1) (number bs) ≡ number bs
number_fits k bs h =
    let ds = after_blanks bs in
    let v = value_from 0 ds in
    elim (cases_Bool (well_written ds)) [
      | inl e ↦
          let short = after_blanks_le bs in
          let less : v < 10 ^ k = digits_value_short own ds k (well_parts ds e).digits (omega arith) in
          ap (λ (t : Bool). up_to (10 ^ k - 1) (cond t (Some v) None)) e ∙ up_to_within (10 ^ k - 1) v (omega arith) ∙ ap (λ (t : Bool). cond t (Some v) None) (sym e)
      | inr e ↦ ap (λ (t : Bool). up_to (10 ^ k - 1) (cond t (Some v) None)) e ∙ ap (λ (t : Bool). cond t (Some v) None) (sym e)
    ]
