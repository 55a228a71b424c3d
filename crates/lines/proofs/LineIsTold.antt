-- A line says what reading it gives, and nothing else.
use Rattle.std.proofs.Common.{◌≡◌, ℕ, zero, suc, ◌<◌, ◌≤◌, true, false, not, eqb, leb}
use Rattle.std.proofs.Common.{List, [], ◌∷◌, length, get_or, take, drop, Some, None, Ok, Err}
use Rattle.std.proofs.Common.{Option, Result, sym, refl, ap, subst, ◌∙◌, inl, inr, arith}
use Rattle.std.specs.Prelude.{◌≢◌}
use Rattle.std.specs.List.{slice_get, between}
use Rattle.std.proofs.lemmas.List.{get_or-take, get_or-drop}
use Rattle.std.proofs.lemmas.Option.{slice_get_within, get_or_from_slice_get, slice_get-get_or}
use Rattle.std.proofs.lemmas.Bool.{and_from, and_parts, both_ways, cases_Bool, cond-true}
use Rattle.std.proofs.lemmas.Bool.{cond-false, eq-eqb, eqb-true, ne_eqb, le-leb, not-true}
use Rattle.std.proofs.lemmas.Bool.{not_from_false}
use Rattle.refusals.specs.declared.LineRefusal.{LineRefusal}
use Rattle.refusals.specs.declared.LineRefusal.TheVariants.{Shape, CueField, Letter, ItemField}
use Rattle.lists.specs.Lists.{has}
use Rattle.lists.proofs.Places.{get_front, front_get, some_at, at_some}
use Rattle.history.specs.declared.Act.{Act}
use Rattle.history.specs.declared.Act.TheVariants.{Read, Write, Commit, Abort}
use Rattle.history.specs.declared.Entry.{Entry}
use Rattle.columns.specs.Columns.{number}
use Rattle.lines.specs.Cutting.{whole, spaced_in, line_cut}
use Rattle.lines.specs.Reading.{blank, on_item, on_none, of_cue, act_in, after_cue, entry_in}
use Rattle.lines.specs.Reading.{line_in, some, next_in}
use Rattle.lines.specs.Writing.{letter_of}
use Rattle.lines.specs.LineIsTold.{column_at, IsLine, HasLetter, AnyAct}
use Rattle.lines.specs.LineIsTold.{HoldsItem, SaysLine, SaysFirst, LineIsTold}
use Rattle.lines.proofs.Cutting.{whole_long, cut_whole, cut_well}
use Rattle.lines.proofs.RoundTrip.{blank_all}

-- bytes in columns

pub column_is :
    (bs : List ℕ) (i b : ℕ) → i < length bs → get_or bs i 0 ≡ b → slice_get bs i ≡ Some b
column_is bs i b h e = slice_get-get_or bs i 0 h ∙ ap Some e

pub is_line : (bs : List ℕ) → whole bs ≡ true → IsLine bs
is_line bs h =
    let long = whole_long bs h in
    let rest = (and_parts (leb 16 (length bs)) _ h).1 in
    let p = and_parts (not (has 10 (take 15 bs))) (eqb (get_or bs 15 0) 10) rest in
    record { feed = column_is bs 15 10 long (eqb-true _ 10 p.1); unbroken = none (not-true _ p.0) }
  where
    none : has 10 (take 15 bs) ≡ false → (c : ℕ) → c < 16 → column_at bs c ≢ Some 10
    none f zero l e = cc
    none f (suc i) l e =
        both_ways (has 10 (take 15 bs)) f
        (at_some (λ n. eqb n 10) (take 15 bs) i 10 (front_get 15 bs i 10 (omega arith) e) refl)

pub line_is : (bs : List ℕ) → IsLine bs → whole bs ≡ true
line_is bs l =
    let long : 16 ≤ length bs = slice_get_within bs 15 10 l.feed in
    and_from (leb 16 (length bs)) _ (le-leb 16 (length bs) long)
    (and_from (not (has 10 (take 15 bs))) _ (not_from_false _ none)
    (eq-eqb (get_or bs 15 0) 10 (get_or_from_slice_get bs 15 10 0 l.feed)))
  where
    none : has 10 (take 15 bs) ≡ false
    none =
        elim (cases_Bool (has 10 (take 15 bs))) [
          | inl t ↦
              let r = some_at (λ n. eqb n 10) (take 15 bs) t in
              let p = get_front 15 bs r.0 r.1 r.2 in
              let feed = p.1 ∙ ap Some (eqb-true r.1 10 r.3) in
              absurd (l.unbroken (suc r.0) (omega (arith, p.0)) feed)
          | inr f ↦ f
        ]

-- the letter, and the columns beside it

abbrev letter_in : List ℕ → ℕ
letter_in bs = get_or (between 5 6 bs) 0 0

pub letter_column : (bs : List ℕ) → letter_in bs ≡ get_or bs 5 0
letter_column bs = get_or-take 1 (drop 5 bs) 0 0 (omega arith) ∙ get_or-drop 5 bs 0 0

module _ {K : Type 0} (bs : List ℕ) (a : Act K) where
  letter_to : HasLetter bs a → (spaced_in bs ≡ true) × (letter_of a ≡ letter_in bs)
  letter_to h = (
    and_from (eqb (get_or bs 4 0) 32) (eqb (get_or bs 6 0) 32)
        (eq-eqb (get_or bs 4 0) 32 (get_or_from_slice_get bs 4 32 0 h.before))
        (eq-eqb (get_or bs 6 0) 32 (get_or_from_slice_get bs 6 32 0 h.after)),
    sym (letter_column bs ∙ get_or_from_slice_get bs 5 (letter_of a) 0 h.letter),
  )

  letter_from : 16 ≤ length bs → spaced_in bs ≡ true → letter_of a ≡ letter_in bs → HasLetter bs a
  letter_from long t e =
      let p = and_parts (eqb (get_or bs 4 0) 32) (eqb (get_or bs 6 0) 32) t in
      record {
        before = column_is bs 4 32 (omega arith) (eqb-true _ 32 p.0);
        letter = column_is bs 5 (letter_of a) (omega arith) (sym (e ∙ letter_column bs));
        after = column_is bs 6 32 (omega arith) (eqb-true _ 32 p.1);
      }

-- acts by their letters

by_none :
    {K : Type 0} (letter : ℕ) → (letter ≢ 114) → (letter ≢ 119) → (letter ≢ 99) → (letter ≢ 97) →
    (a : Act K) → letter_of a ≢ letter
by_none letter r w c b (Read k) e = r (sym e)
by_none letter r w c b (Write k) e = w (sym e)
by_none letter r w c b Commit e = c (sym e)
by_none letter r w c b Abort e = b (sym e)

module _ {K : Type 0} (parsed : List ℕ → Option K) (field : List ℕ) where
  -- what a letter and an item field say
  abbrev SaysAct : ℕ → Result (Act K) LineRefusal → Type 0
  SaysAct letter (Ok a) = (letter_of a ≡ letter) × HoldsItem parsed field a
  SaysAct letter (Err Shape) = ⊥
  SaysAct letter (Err CueField) = ⊥
  SaysAct letter (Err Letter) = (a : AnyAct) → letter_of a ≢ letter
  SaysAct letter (Err ItemField) =
      ((a : AnyAct) × (letter_of a ≡ letter))
      × ((a : Act K) → letter_of a ≡ letter → HoldsItem parsed field a → ⊥)

  none_read :
      (make : K → Act K) (o : Option K) → parsed field ≡ o → ((k : K) → parsed field ≡ Some k → ⊥) →
      on_item make o ≡ Err ItemField
  none_read make None is none = refl
  none_read make (Some k) is none = absurd (none k is)

  none_blank : (act : Act K) → ((blank field ≡ true) → ⊥) → on_none act field ≡ Err ItemField
  none_blank act none =
      elim (cases_Bool (blank field)) [
        | inl t ↦ absurd (none t)
        | inr f ↦ cond-false (blank field) (Ok act) (Err ItemField) f
      ]

  module _ (eight : length field ≡ 8) where
    act_of : (letter at : ℕ) → at ≡ letter → act_in parsed letter field ≡ act_in parsed at field
    act_of letter at e = ap (λ (x : ℕ). act_in parsed x field) (sym e)

    only_no_item :
        (letter : ℕ) (a : AnyAct) → letter_of a ≡ letter →
        ((b : Act K) → letter_of b ≡ letter → HoldsItem parsed field b → ⊥) →
        act_in parsed letter field ≡ Err ItemField
    only_no_item letter (Read u) e none =
        act_of letter 114 e ∙ none_read Read (parsed field) refl (λ k is. none (Read k) e is)
    only_no_item letter (Write u) e none =
        act_of letter 119 e ∙ none_read Write (parsed field) refl (λ k is. none (Write k) e is)
    only_no_item letter Commit e none =
        act_of letter 99 e ∙ none_blank Commit (λ t. none Commit e (sym (blank_all field eight t)))
    only_no_item letter Abort e none =
        act_of letter 97 e ∙ none_blank Abort (λ t. none Abort e (sym (blank_all field eight t)))

    only_act :
        (letter : ℕ) (r : Result (Act K) LineRefusal) → SaysAct letter r →
        r ≡ act_in parsed letter field
    only_act letter (Ok (Read k)) p = sym (act_of letter 114 p.0 ∙ ap (on_item Read) p.1)
    only_act letter (Ok (Write k)) p = sym (act_of letter 119 p.0 ∙ ap (on_item Write) p.1)
    only_act letter (Ok Commit) p = sym (act_of letter 99 p.0 ∙ ap (on_none Commit) p.1)
    only_act letter (Ok Abort) p = sym (act_of letter 97 p.0 ∙ ap (on_none Abort) p.1)
    only_act letter (Err Shape) p = absurd p
    only_act letter (Err CueField) p = absurd p
    only_act letter (Err Letter) n =
        sym (cond-false (eqb letter 114) _ _ (ne_eqb letter 114 (λ e. n (Read tt) (sym e)))
        ∙ cond-false (eqb letter 119) _ _ (ne_eqb letter 119 (λ e. n (Write tt) (sym e)))
        ∙ cond-false (eqb letter 99) _ _ (ne_eqb letter 99 (λ e. n Commit (sym e)))
        ∙ cond-false (eqb letter 97) _ _ (ne_eqb letter 97 (λ e. n Abort (sym e))))
    only_act letter (Err ItemField) p = sym (only_no_item letter p.0.0 p.0.1 p.1)

    -- no act of a letter where the field does not hold what it asks for

    not_read : parsed field ≡ None → (a : Act K) → letter_of a ≡ 114 → HoldsItem parsed field a → ⊥
    not_read is (Read k) e h = let both : None ≡ Some k = sym is ∙ h in cc
    not_read is (Write k) e h = let z : ◌≡◌ {A = ℕ} 119 114 = e in omega arith
    not_read is Commit e h = let z : ◌≡◌ {A = ℕ} 99 114 = e in omega arith
    not_read is Abort e h = let z : ◌≡◌ {A = ℕ} 97 114 = e in omega arith

    not_write : parsed field ≡ None → (a : Act K) → letter_of a ≡ 119 → HoldsItem parsed field a → ⊥
    not_write is (Read k) e h = let z : ◌≡◌ {A = ℕ} 114 119 = e in omega arith
    not_write is (Write k) e h = let both : None ≡ Some k = sym is ∙ h in cc
    not_write is Commit e h = let z : ◌≡◌ {A = ℕ} 99 119 = e in omega arith
    not_write is Abort e h = let z : ◌≡◌ {A = ℕ} 97 119 = e in omega arith

    not_commit : blank field ≡ false → (a : Act K) → letter_of a ≡ 99 → HoldsItem parsed field a → ⊥
    not_commit f (Read k) e h = let z : ◌≡◌ {A = ℕ} 114 99 = e in omega arith
    not_commit f (Write k) e h = let z : ◌≡◌ {A = ℕ} 119 99 = e in omega arith
    not_commit f Commit e h = both_ways (blank field) f (ap blank h)
    not_commit f Abort e h = let z : ◌≡◌ {A = ℕ} 97 99 = e in omega arith

    not_abort : blank field ≡ false → (a : Act K) → letter_of a ≡ 97 → HoldsItem parsed field a → ⊥
    not_abort f (Read k) e h = let z : ◌≡◌ {A = ℕ} 114 97 = e in omega arith
    not_abort f (Write k) e h = let z : ◌≡◌ {A = ℕ} 119 97 = e in omega arith
    not_abort f Commit e h = let z : ◌≡◌ {A = ℕ} 99 97 = e in omega arith
    not_abort f Abort e h = both_ways (blank field) f (ap blank h)

    -- some answer is said

    abbrev SomeAct : ℕ → Type 0
    SomeAct letter = (r : Result (Act K) LineRefusal) × SaysAct letter r

    some_read : (o : Option K) → parsed field ≡ o → SomeAct 114
    some_read (Some k) is = (Ok (Read k), (refl, is))
    some_read None is = (Err ItemField, ((Read tt, refl), not_read is))

    some_write : (o : Option K) → parsed field ≡ o → SomeAct 119
    some_write (Some k) is = (Ok (Write k), (refl, is))
    some_write None is = (Err ItemField, ((Write tt, refl), not_write is))

    some_commit : SomeAct 99
    some_commit =
        elim (cases_Bool (blank field)) [
          | inl t ↦ (Ok Commit, (refl, sym (blank_all field eight t)))
          | inr f ↦ (Err ItemField, ((Commit, refl), not_commit f))
        ]

    some_abort : SomeAct 97
    some_abort =
        elim (cases_Bool (blank field)) [
          | inl t ↦ (Ok Abort, (refl, sym (blank_all field eight t)))
          | inr f ↦ (Err ItemField, ((Abort, refl), not_abort f))
        ]

    differs : (letter at : ℕ) → eqb letter at ≡ false → letter ≢ at
    differs letter at f e = both_ways (eqb letter at) f (eq-eqb letter at e)

    some_act : (letter : ℕ) → SomeAct letter
    some_act letter =
        elim (cases_Bool (eqb letter 114)) [
          | inl t ↦ subst SomeAct (sym (eqb-true letter 114 t)) (some_read (parsed field) refl)
          | inr r ↦ elim (cases_Bool (eqb letter 119)) [
            | inl t ↦ subst SomeAct (sym (eqb-true letter 119 t)) (some_write (parsed field) refl)
            | inr w ↦ elim (cases_Bool (eqb letter 99)) [
              | inl t ↦ subst SomeAct (sym (eqb-true letter 99 t)) some_commit
              | inr c ↦ elim (cases_Bool (eqb letter 97)) [
                | inl t ↦ subst SomeAct (sym (eqb-true letter 97 t)) some_abort
                | inr b ↦ (
                  Err Letter,
                  by_none letter (differs letter 114 r) (differs letter 119 w) (differs letter 99 c)
                      (differs letter 97 b),
                )
              ]
            ]
          ]
        ]

module _ {K : Type 0} (parsed : List ℕ → Option K) (bs : List ℕ) where
  abbrev field : List ℕ
  field = between 7 15 bs

  abbrev act_said : Result (Act K) LineRefusal
  act_said = act_in parsed (letter_in bs) field

  eight : whole bs ≡ true → length field ≡ 8
  eight h = (cut_well bs (line_cut bs) (cut_whole bs h)).item_wide

  -- what reading gives, step by step

  read_cue :
      IsLine bs → (o : Option ℕ) → number (between 0 4 bs) ≡ o →
      line_in parsed bs ≡ after_cue parsed (line_cut bs) o
  read_cue l o is =
      cond-true (whole bs) (entry_in parsed (line_cut bs)) (Err Shape) (line_is bs l)
      ∙ ap (after_cue parsed (line_cut bs)) is

  read_act :
      IsLine bs → (n : ℕ) → number (between 0 4 bs) ≡ Some n → spaced_in bs ≡ true →
      (r : Result (Act K) LineRefusal) → r ≡ act_said → line_in parsed bs ≡ of_cue n r
  read_act l n is t r e =
      read_cue l (Some n) is
      ∙ cond-true (spaced_in bs) (of_cue n act_said) (Err Letter) t
      ∙ ap (of_cue n) (sym e)

  -- without a letter between blanks
  read_no_letter :
      IsLine bs → (n : ℕ) → number (between 0 4 bs) ≡ Some n → ((a : AnyAct) → HasLetter bs a → ⊥) →
      line_in parsed bs ≡ Err Letter
  read_no_letter l n is none =
      elim (cases_Bool (spaced_in bs)) [
        | inl t ↦
            let h = line_is bs l in
            read_act l n is t (Err Letter)
            (only_act parsed field (eight h) (letter_in bs) (Err Letter)
            (λ a e. none a (letter_from bs a (whole_long bs h) t e)))
        | inr f ↦
            read_cue l (Some n) is
            ∙ cond-false (spaced_in bs) (of_cue n act_said) (Err Letter) f
      ]

  only_line : (r : Result (Entry K) LineRefusal) → SaysLine parsed bs r → r ≡ line_in parsed bs
  only_line (Ok e) s =
      let h = line_is bs s.line in
      let p = letter_to bs e.act s.letter in
      sym (read_act s.line e.cue s.cue p.0 (Ok e.act)
      (only_act parsed field (eight h) (letter_in bs) (Ok e.act) (p.1, s.item)))
  only_line (Err Shape) n =
      elim (cases_Bool (whole bs)) [
        | inl t ↦ absurd (n (is_line bs t))
        | inr f ↦ sym (cond-false (whole bs) (entry_in parsed (line_cut bs)) (Err Shape) f)
      ]
  only_line (Err CueField) s = sym (read_cue s.line None s.none)
  only_line (Err Letter) s = sym (read_no_letter s.line s.cue s.field s.none)
  only_line (Err ItemField) s =
      let h = line_is bs s.line in
      let long = whole_long bs h in
      let p = letter_to bs s.act s.letter in
      sym (read_act s.line s.cue s.field p.0 (Err ItemField)
      (only_act parsed field (eight h) (letter_in bs) (Err ItemField)
      ((s.act, p.1), λ a e i. s.none a (letter_from bs a long p.0 e) i)))

  -- some answer is said

  abbrev SomeLine : Type 0
  SomeLine = (r : Result (Entry K) LineRefusal) × SaysLine parsed bs r

  some_acted :
      whole bs ≡ true → (n : ℕ) → number (between 0 4 bs) ≡ Some n → spaced_in bs ≡ true →
      (r : Result (Act K) LineRefusal) → SaysAct parsed field (letter_in bs) r → SomeLine
  some_acted h n is t (Ok a) s = (
    Ok (record { cue = n; act = a }),
    record {
      line = is_line bs h;
      cue = is;
      letter = letter_from bs a (whole_long bs h) t s.0;
      item = s.1;
    },
  )
  some_acted h n is t (Err Shape) s = absurd s
  some_acted h n is t (Err CueField) s = absurd s
  some_acted h n is t (Err Letter) s = (
    Err Letter,
    record { line = is_line bs h; cue = n; field = is; none = λ a l. s a (letter_to bs a l).1 },
  )
  some_acted h n is t (Err ItemField) s = (
    Err ItemField,
    record {
      line = is_line bs h;
      cue = n;
      field = is;
      act = s.0.0;
      letter = letter_from bs s.0.0 (whole_long bs h) t s.0.1;
      none = λ a l i. s.1 a (letter_to bs a l).1 i;
    },
  )

  some_cued : whole bs ≡ true → (o : Option ℕ) → number (between 0 4 bs) ≡ o → SomeLine
  some_cued h None is = (Err CueField, record { line = is_line bs h; none = is })
  some_cued h (Some n) is =
      elim (cases_Bool (spaced_in bs)) [
        | inl t ↦
            let p = some_act parsed field (eight h) (letter_in bs) in
            some_acted h n is t p.0 p.1
        | inr f ↦ (
          Err Letter,
          record {
            line = is_line bs h;
            cue = n;
            field = is;
            none = λ a l. both_ways (spaced_in bs) f (letter_to bs a l).0;
          },
        )
      ]

  some_line : SomeLine
  some_line =
      elim (cases_Bool (whole bs)) [
        | inl t ↦ some_cued t (number (between 0 4 bs)) refl
        | inr f ↦ (Err Shape, λ l. both_ways (whole bs) f (line_is bs l))
      ]

  says_line : SaysLine parsed bs (line_in parsed bs)
  says_line = let p = some_line in subst (SaysLine parsed bs) (only_line p.0 p.1) p.1

-- the first line of a sheet

module _ {K : Type 0} (parsed : List ℕ → Option K) where
  only_first :
      (bs : List ℕ) (r : Result (Option (Entry K)) LineRefusal) → SaysFirst parsed bs r →
      r ≡ next_in parsed bs
  only_first [] (Ok None) s = refl
  only_first [] (Ok (Some e)) s = let z = s.line.feed in cc
  only_first [] (Err f) s = absurd (s.0 refl)
  only_first (b ∷ bs) (Ok None) s = cc
  only_first (b ∷ bs) (Ok (Some e)) s = ap (some parsed) (only_line parsed (b ∷ bs) (Ok e) s)
  only_first (b ∷ bs) (Err f) s = ap (some parsed) (only_line parsed (b ∷ bs) (Err f) s.1)

  first_of :
      (b : ℕ) (bs : List ℕ) (r : Result (Entry K) LineRefusal) → SaysLine parsed (b ∷ bs) r →
      SaysFirst parsed (b ∷ bs) (some parsed r)
  first_of b bs (Ok e) s = s
  first_of b bs (Err f) s = (λ e. cc, s)

  says_first : (bs : List ℕ) → SaysFirst parsed bs (next_in parsed bs)
  says_first [] = refl
  says_first (b ∷ bs) = first_of b bs (line_in parsed (b ∷ bs)) (says_line parsed (b ∷ bs))

  pub line_is_told_lem : LineIsTold parsed
  line_is_told_lem = record {
    line = λ bs r. (
      only_line parsed bs r,
      λ e. subst (SaysLine parsed bs) (sym e) (says_line parsed bs),
    );
    next = λ bs r. (
      only_first bs r,
      λ e. subst (SaysFirst parsed bs) (sym e) (says_first bs),
    );
  }
