-- A line is cut into the fields that its columns say, and into nothing else.
use Rattle.std.proofs.Common.{◌≡◌, ℕ, suc, ◌+◌, ◌-◌, ◌<◌, ◌≤◌, Bool, true, false, eqb}
use Rattle.std.proofs.Common.{List, [], ◌∷◌, ◌++◌, length, get_or, take, drop}
use Rattle.std.proofs.Common.{Some, None, Ok, Err, Option, Result, sym, refl, ap, subst, ◌∙◌}
use Rattle.std.proofs.Common.{inl, inr, arith}
use Rattle.std.specs.Prelude.{◌≢◌}
use Rattle.std.specs.List.{slice_get, between, AllPass}
use Rattle.std.proofs.lemmas.List.Sums.{AllPass-from_list_all, list_all-from_AllPass}
use Rattle.std.proofs.lemmas.List.{take-append-drop}
use Rattle.std.proofs.lemmas.List.Edits.{get_or-between, length-between}
use Rattle.std.proofs.lemmas.Grind.{same_number_lists}
use Rattle.std.proofs.lemmas.Option.{get_or_from_slice_get, slice_get-get_or}
use Rattle.std.proofs.lemmas.Bool.{and_from, and_parts, both_ways, cases_Bool}
use Rattle.std.proofs.lemmas.Bool.{cond-true, cond-false, eq-eqb, eqb-true, ne_eqb}
use Rattle.std.proofs.lemmas.Bool.Decides.{nat_tests}
use Rattle.refusals.specs.declared.LineRefusal.{LineRefusal}
use Rattle.refusals.specs.declared.LineRefusal.TheVariants.{Shape}
use Rattle.lists.specs.Lists.{every}
use Rattle.columns.specs.Symbols.{is_digit, is_letter}
use Rattle.columns.specs.Columns.{after_blanks}
use Rattle.columns.proofs.Blanks.{after_blanks_replicate}
use Rattle.columns.proofs.NumbersAreTexts.{texts_are_justified}
use Rattle.lines.specs.declared.cuts.Part.{Part}
use Rattle.lines.specs.declared.cuts.Field.{Field}
use Rattle.lines.specs.declared.cuts.Field.TheVariants.{Digits, Letters, Blanks, Other}
use Rattle.lines.specs.declared.cuts.Fields.{Fields}
use Rattle.lines.specs.Cutting.{Filling, digits, letters, blanks, other, filling_after, filling}
use Rattle.lines.specs.Cutting.{Seen, CutLine, field_of, whole, spaced_in, line_cut, cut_of}
use Rattle.lines.specs.Cutting.{seen, viewed, viewed_cut}
use Rattle.lines.specs.LineIsTold.{column_at, bytes_in, StandsAt, IsLine}
use Rattle.lines.specs.CutIsTold.{AreAll, AreNotAll, IsPart, IsField, CutsLine, SaysCut}
use Rattle.lines.specs.CutIsTold.{CutIsTold}
use Rattle.lines.proofs.Cutting.{whole_long}
use Rattle.lines.proofs.LineIsTold.{column_is, is_line, line_is}
use Rattle.lines.proofs.RoundTrip.{take_listed}

-- what the text of a field is, by the field's filling
abbrev Fact : Filling → List ℕ → Type 0
Fact digits text = AreAll is_digit text
Fact letters text = AreAll is_letter text
Fact blanks text = text ≡ []
Fact other text = (text ≢ []) × AreNotAll is_digit text × AreNotAll is_letter text

-- a letter is no digit
not_digit : (b : ℕ) → is_letter b ≡ true → is_digit b ≡ false
not_digit b h = grind (arith, nat_tests)

fails : (test : ℕ → Bool) (text : List ℕ) → AreNotAll test text → every test text ≡ false
fails test text n =
    elim (cases_Bool (every test text)) [
      | inl t ↦ absurd (n (AllPass-from_list_all test text t))
      | inr f ↦ f
    ]

passes : (test : ℕ → Bool) (text : List ℕ) → AllPass test text → every test text ≡ true
passes test text h = list_all-from_AllPass test text h

no_digits : (b : ℕ) (bs : List ℕ) → AllPass is_letter (b ∷ bs) → every is_digit (b ∷ bs) ≡ false
no_digits b bs h =
    fails is_digit (b ∷ bs)
    (λ d. both_ways (is_digit b) (not_digit b (h 0 b (omega arith))) (d 0 b (omega arith)))

only_filling : (c : Filling) (text : List ℕ) → Fact c text → filling_after text ≡ c
only_filling digits [] f = absurd (f.0 refl)
only_filling digits (b ∷ bs) f =
    cond-true (every is_digit (b ∷ bs)) _ _ (passes is_digit (b ∷ bs) f.1)
only_filling letters [] f = absurd (f.0 refl)
only_filling letters (b ∷ bs) f =
    cond-false (every is_digit (b ∷ bs)) _ _ (no_digits b bs f.1)
    ∙ cond-true (every is_letter (b ∷ bs)) _ _ (passes is_letter (b ∷ bs) f.1)
only_filling blanks [] f = refl
only_filling blanks (b ∷ bs) f = cc
only_filling other [] f = absurd (f.0 refl)
only_filling other (b ∷ bs) f =
    cond-false (every is_digit (b ∷ bs)) _ _ (fails is_digit (b ∷ bs) f.1)
    ∙ cond-false (every is_letter (b ∷ bs)) _ _ (fails is_letter (b ∷ bs) f.2)

fact : (text : List ℕ) → Fact (filling_after text) text
fact [] = refl
fact (b ∷ bs) =
    elim (cases_Bool (every is_digit (b ∷ bs))) [
      | inl d ↦
          subst (λ (c : Filling). Fact c (b ∷ bs))
          (sym (cond-true (every is_digit (b ∷ bs)) _ _ d))
          (λ e. cc, AllPass-from_list_all is_digit (b ∷ bs) d)
      | inr d ↦ elim (cases_Bool (every is_letter (b ∷ bs))) [
        | inl l ↦
            subst (λ (c : Filling). Fact c (b ∷ bs))
            (sym (cond-false (every is_digit (b ∷ bs)) _ _ d
            ∙ cond-true (every is_letter (b ∷ bs)) _ _ l))
            (λ e. cc, AllPass-from_list_all is_letter (b ∷ bs) l)
        | inr l ↦
            subst (λ (c : Filling). Fact c (b ∷ bs))
            (sym (cond-false (every is_digit (b ∷ bs)) _ _ d
            ∙ cond-false (every is_letter (b ∷ bs)) _ _ l)) (
              λ e. cc,
              λ h. both_ways (every is_digit (b ∷ bs)) d (passes is_digit (b ∷ bs) h),
              λ h. both_ways (every is_letter (b ∷ bs)) l (passes is_letter (b ∷ bs) h),
            )
      ]
    ]

-- a text that begins with no blank is what stands after its blanks
no_blank_leads : (text : List ℕ) → slice_get text 0 ≢ Some 32 → after_blanks text ≡ text
no_blank_leads [] n = refl
no_blank_leads (b ∷ bs) n =
    cond-false (eqb b 32) (after_blanks bs) (b ∷ bs) (ne_eqb b 32 (λ e. n (ap Some e)))

module _ (bs : List ℕ) (a width : ℕ) (long : a + width ≤ length bs) where
  abbrev pub here : List ℕ
  here = between a (a + width) bs

  column_of : (i : ℕ) → column_at bs (suc a + i) ≡ slice_get bs (a + i)
  column_of i = let e : suc a + i ≡ suc (a + i) = omega arith in ap (column_at bs) e

  here_wide : length here ≡ width
  here_wide = length-between bs a (a + width) long ∙ omega arith

  pub here_stands : StandsAt bs (suc a) here
  here_stands i less =
      let l : i < width = omega (arith, here_wide) in
      let within : a + i < length bs = omega arith in
      let below : a + i < a + width = omega arith in
      column_of i
      ∙ slice_get-get_or bs (a + i) 0 within
      ∙ ap Some (sym (get_or-between bs a (a + width) i 0 below))
      ∙ sym (slice_get-get_or here i 0 less)

  -- what stands there has those bytes
  pub stands_here : (xs : List ℕ) → length xs ≡ width → StandsAt bs (suc a) xs → xs ≡ here
  stands_here xs wide h =
      same_number_lists xs here (wide ∙ sym here_wide) (λ k l.
      let below : a + k < a + width = omega (arith, wide) in
      let e : slice_get bs (a + k) ≡ Some (get_or xs k 0) =
      sym (column_of k) ∙ h k l ∙ slice_get-get_or xs k 0 l in
      sym (get_or-between bs a (a + width) k 0 below
      ∙ get_or_from_slice_get bs (a + k) (get_or xs k 0) 0 e))

  module _ (c : Filling) (p : Part) where
    only_part :
        IsPart bs (suc a) width p (Fact c) →
        record { filled = c; column = p.column; bytes = p.bytes.now } ≡ field_of (suc a) here
    only_part h =
        let xs = p.bytes.now in
        let same : xs ≡ here = stands_here xs h.wide h.stands in
        let text : after_blanks xs ≡ h.text =
        ap after_blanks h.after.1
        ∙ after_blanks_replicate h.after.0 h.text
        ∙ no_blank_leads h.text h.begins in
        let filled : c ≡ filling here =
        sym (ap filling (sym same) ∙ ap filling_after text ∙ only_filling c h.text h.fact) in
        (λ i. record { filled = filled i; column = h.column i; bytes = same i })

    is_part :
        record { filled = c; column = p.column; bytes = p.bytes.now } ≡ field_of (suc a) here →
        IsPart bs (suc a) width p (Fact c)
    is_part e =
        let xs = p.bytes.now in
        let same : xs ≡ here = ap (λ (s : Seen). s.bytes) e in
        let filled : c ≡ filling here = ap (λ (s : Seen). s.filled) e in
        let is : filling_after (after_blanks xs) ≡ c = ap filling same ∙ sym filled in
        record {
          column = ap (λ (s : Seen). s.column) e;
          wide = ap length same ∙ here_wide;
          stands = subst (StandsAt bs (suc a)) (sym same) here_stands;
          text = after_blanks xs;
          after = texts_are_justified.after xs;
          begins = texts_are_justified.begins xs;
          fact = subst (λ (d : Filling). Fact d (after_blanks xs)) is (fact (after_blanks xs));
        }

  only_field : (f : Field) → IsField bs (suc a) width f → seen f ≡ field_of (suc a) here
  only_field (Digits p) h = only_part digits p h
  only_field (Letters p) h = only_part letters p h
  only_field (Blanks p) h = only_part blanks p h
  only_field (Other p) h = only_part other p h

  is_field : (f : Field) → seen f ≡ field_of (suc a) here → IsField bs (suc a) width f
  is_field (Digits p) e = is_part digits p e
  is_field (Letters p) e = is_part letters p e
  is_field (Blanks p) e = is_part blanks p e
  is_field (Other p) e = is_part other p e

bytes_stand :
    (bs : List ℕ) (a e : ℕ) → 1 ≤ a → a ≤ e → e ≤ length bs →
    (length (bytes_in a e bs) ≡ e + 1 - a) × StandsAt bs a (bytes_in a e bs)
bytes_stand bs a e one l long =
    let m = a - 1 in
    let first : suc m ≡ a = omega arith in
    let is : m + (e - m) ≡ e = omega arith in
    let within : m + (e - m) ≤ length bs = omega arith in
    let wide : e - m ≡ e + 1 - a = omega arith in
    let there =
    subst (λ (n : ℕ). (length (between m n bs) ≡ e - m) × StandsAt bs (suc m) (between m n bs)) is
    (here_wide bs m (e - m) within, here_stands bs m (e - m) within) in
    (there.0 ∙ wide, subst (λ (n : ℕ). StandsAt bs n (between m e bs)) first there.1)

-- the columns beside the letter

abbrev AreBlank : List ℕ → Type 0
AreBlank bs = (column_at bs 5 ≡ Some 32) × (column_at bs 7 ≡ Some 32)

spaced_to : (bs : List ℕ) → 16 ≤ length bs → spaced_in bs ≡ true → AreBlank bs
spaced_to bs long t =
    let p = and_parts (eqb (get_or bs 4 0) 32) (eqb (get_or bs 6 0) 32) t in (
      column_is bs 4 32 (omega arith) (eqb-true _ 32 p.0),
      column_is bs 6 32 (omega arith) (eqb-true _ 32 p.1),
    )

spaced_from : (bs : List ℕ) → AreBlank bs → spaced_in bs ≡ true
spaced_from bs h =
    and_from (eqb (get_or bs 4 0) 32) (eqb (get_or bs 6 0) 32)
    (eq-eqb (get_or bs 4 0) 32 (get_or_from_slice_get bs 4 32 0 h.0))
    (eq-eqb (get_or bs 6 0) 32 (get_or_from_slice_get bs 6 32 0 h.1))

same_tests : (x y : Bool) → (x ≡ true → y ≡ true) → (y ≡ true → x ≡ true) → x ≡ y
same_tests true y to from = sym (to refl)
same_tests false true to from = from refl
same_tests false false to from = refl

-- lines

-- the first 16 bytes, by the fields and the columns between them
parts :
    (bs : List ℕ) → 16 ≤ length bs →
    take 16 bs
    ≡ between 0 4 bs ++ (get_or bs 4 0 ∷ between 5 6 bs) ++ (get_or bs 6 0 ∷ between 7 15 bs)
    ++ get_or bs 15 0 ∷ []
parts bs long =
    subst
    (λ xs.
    take 16 xs
    ≡ between 0 4 xs ++ (get_or xs 4 0 ∷ between 5 6 xs) ++ (get_or xs 6 0 ∷ between 7 15 xs)
    ++ get_or xs 15 0 ∷ [])
    (ap (λ xs. xs ++ drop 16 bs) (sym (take_listed 16 bs long)) ∙ take-append-drop 16 bs)
    refl

module _ (bs : List ℕ) (f : Fields) where
  only_cut : CutsLine bs f → viewed f ≡ line_cut bs
  only_cut h =
      let long = whole_long bs (line_is bs h.line) in
      let cue = only_field bs 0 4 (omega arith) f.cue h.cue in
      let letter = only_field bs 5 1 (omega arith) f.letter h.letter in
      let item = only_field bs 7 8 (omega arith) f.item h.item in
      let spaced : f.spaced ≡ spaced_in bs =
      same_tests f.spaced (spaced_in bs) (λ t. spaced_from bs (h.spaced.0 t))
      (λ t. h.spaced.1 (spaced_to bs long t)) in
      (λ i. record { cue = cue i; letter = letter i; item = item i; spaced = spaced i })

  cuts : whole bs ≡ true → viewed f ≡ line_cut bs → CutsLine bs f
  cuts w e =
      let long = whole_long bs w in
      let spaced : f.spaced ≡ spaced_in bs = ap (λ (l : CutLine). l.spaced) e in
      record {
        line = is_line bs w;
        cue = is_field bs 0 4 (omega arith) f.cue (ap (λ (l : CutLine). l.cue) e);
        letter = is_field bs 5 1 (omega arith) f.letter (ap (λ (l : CutLine). l.letter) e);
        item = is_field bs 7 8 (omega arith) f.item (ap (λ (l : CutLine). l.item) e);
        spaced = (
          λ t. spaced_to bs long (sym spaced ∙ t),
          λ b. spaced ∙ spaced_from bs b,
        );
      }

  joined :
      CutsLine bs f → f.spaced ≡ true →
      take 16 bs
      ≡ (seen f.cue).bytes ++ (32 ∷ (seen f.letter).bytes) ++ (32 ∷ (seen f.item).bytes) ++ 10 ∷ []
  joined h t =
      let long = whole_long bs (line_is bs h.line) in
      let e = sym (only_cut h) in
      let cue : between 0 4 bs ≡ (seen f.cue).bytes = ap (λ (l : CutLine). l.cue.bytes) e in
      let letter : between 5 6 bs ≡ (seen f.letter).bytes =
      ap (λ (l : CutLine). l.letter.bytes) e in
      let item : between 7 15 bs ≡ (seen f.item).bytes = ap (λ (l : CutLine). l.item.bytes) e in
      let blank = h.spaced.0 t in
      let before = get_or_from_slice_get bs 4 32 0 blank.0 in
      let after = get_or_from_slice_get bs 6 32 0 blank.1 in
      let feed = get_or_from_slice_get bs 15 10 0 h.line.feed in
      parts bs long
      ∙ (λ i. cue i ++ (before i ∷ letter i) ++ (after i ∷ item i) ++ feed i ∷ [])

only_answer :
    (bs : List ℕ) (r : Result (Option Fields) LineRefusal) → SaysCut bs r → viewed_cut r ≡ cut_of bs
only_answer [] (Ok None) s = refl
only_answer [] (Ok (Some f)) s = let z = s.line.feed in cc
only_answer [] (Err e) s = absurd (s.1 refl)
only_answer (b ∷ bs) (Ok None) s = cc
only_answer (b ∷ bs) (Ok (Some f)) s =
    ap (λ (l : CutLine). Ok (Some l)) (only_cut (b ∷ bs) f s)
    ∙ sym (cond-true (whole (b ∷ bs)) (Ok (Some (line_cut (b ∷ bs)))) (Err Shape)
    (line_is (b ∷ bs) s.line))
only_answer (b ∷ bs) (Err e) s =
    ap Err s.0
    ∙ sym (cond-false (whole (b ∷ bs)) (Ok (Some (line_cut (b ∷ bs)))) (Err Shape)
    (no_whole (b ∷ bs) s.2))
  where
    no_whole : (bs : List ℕ) → (IsLine bs → ⊥) → whole bs ≡ false
    no_whole bs n =
        elim (cases_Bool (whole bs)) [
          | inl t ↦ absurd (n (is_line bs t))
          | inr w ↦ w
        ]

answer :
    (bs : List ℕ) (r : Result (Option Fields) LineRefusal) → viewed_cut r ≡ cut_of bs → SaysCut bs r
answer [] (Ok None) e = refl
answer [] (Ok (Some f)) e = cc
answer [] (Err d) e = cc
answer (b ∷ bs) r e =
    elim (cases_Bool (whole (b ∷ bs))) [
      | inl w ↦
          of_line (b ∷ bs) w r
          (e ∙ cond-true (whole (b ∷ bs)) (Ok (Some (line_cut (b ∷ bs)))) (Err Shape) w)
      | inr w ↦
          of_none b bs w r
          (e ∙ cond-false (whole (b ∷ bs)) (Ok (Some (line_cut (b ∷ bs)))) (Err Shape) w)
    ]
  where
    of_line :
        (bs : List ℕ) → whole bs ≡ true → (r : Result (Option Fields) LineRefusal) →
        viewed_cut r ≡ Ok (Some (line_cut bs)) → SaysCut bs r
    of_line bs w (Ok None) e = cc
    of_line bs w (Ok (Some f)) e = cuts bs f w (let is : viewed f ≡ line_cut bs = cc in is)
    of_line bs w (Err d) e = cc

    of_none :
        (b : ℕ) (bs : List ℕ) → whole (b ∷ bs) ≡ false →
        (r : Result (Option Fields) LineRefusal) → viewed_cut r ≡ Err Shape → SaysCut (b ∷ bs) r
    of_none b bs w (Ok None) e = cc
    of_none b bs w (Ok (Some f)) e = cc
    of_none b bs w (Err d) e = (
      let is : d ≡ Shape = cc in is,
      λ z. cc,
      λ l. both_ways (whole (b ∷ bs)) w (line_is (b ∷ bs) l),
    )

pub cut_is_told_lem : CutIsTold
cut_is_told_lem = record {
  cut = λ bs r. (only_answer bs r, answer bs r);
  joined = joined;
  columns = bytes_stand;
}
