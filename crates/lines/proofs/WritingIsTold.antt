-- Writing a line answers and leaves what is told of it, and nothing else.
use Rattle.std.proofs.Common.{◌≡◌, ℕ, zero, suc, ◌+◌, ◌<◌, ◌≤◌, Bool, true, false, cond}
use Rattle.std.proofs.Common.{not, ltb, List, [], ◌∷◌, ◌++◌, length, get_or, take, drop}
use Rattle.std.proofs.Common.{Some, None, Ok, Err, Option, Result, decimal}
use Rattle.std.proofs.Common.{sym, refl, ap, subst, ◌∙◌, inl, inr, arith}
use Rattle.std.specs.List.{slice_get, between}
use Rattle.std.proofs.lemmas.Option.{get_or_from_slice_get}
use Rattle.std.proofs.lemmas.List.{length-append, take_all}
use Rattle.std.proofs.lemmas.List.{length-take-le, take-append-drop}
use Rattle.std.proofs.lemmas.Bool.{both_ways, cases_Bool}
use Rattle.std.proofs.lemmas.Bool.{cond-true, cond-false, lt-ltb}
use Rattle.std.proofs.lemmas.Bool.{cases_lt, le-ltb}
use Rattle.refusals.specs.declared.LineRefusal.{LineRefusal}
use Rattle.refusals.specs.declared.Layer.{Layer}
use Rattle.refusals.specs.declared.Layer.TheVariants.{Line, Book}
use Rattle.refusals.specs.declared.Refusal.{Refusal}
use Rattle.refusals.specs.declared.Refusal.TheVariants.{NoSuchCue, SpaceShort}
use Rattle.items.specs.Fields.{Eight}
use Rattle.history.specs.declared.Act.{Act}
use Rattle.history.specs.declared.Act.TheVariants.{Read, Write, Commit, Abort}
use Rattle.history.specs.declared.Entry.{Entry}
use Rattle.history.specs.Entries.{is_cue}
use Rattle.history.specs.Places.{IsCue}
use Rattle.history.proofs.Places.{cue_is, is_of_cue}
use Rattle.columns.specs.Columns.{number_in}
use Rattle.columns.proofs.Blanks.{length_justified}
use Rattle.columns.proofs.NumbersAreTexts.{is_justified, only_justified}
use Rattle.lines.specs.Reading.{next_in}
use Rattle.lines.specs.Writing.{letter_of, item_of, line_of, line_written, space_after, SameAct}
use Rattle.lines.specs.Writing.{rewritten_as, rewritten_of, rewritten, space_rewritten}
use Rattle.lines.specs.Writing.{copied_by, copied, space_copied, ReadsBack}
use Rattle.lines.specs.LineIsTold.{column_at, StandsAt, SaysEntry, SaysFirst}
use Rattle.lines.specs.WritingIsTold.{SameAfter, SaysWriting, letter_text, ItemIs}
use Rattle.lines.specs.WritingIsTold.{HasItem, IsLineOf, HasLine, LeavesWriting}
use Rattle.lines.specs.WritingIsTold.{LeavesRewriting, LeavesCopying, SaysRewriting}
use Rattle.lines.specs.WritingIsTold.{SaysCopying, IsAgain, WritingIsTold, RewritingIsTold}
use Rattle.lines.proofs.CutIsTold.{stands_here}
use Rattle.lines.proofs.LineIsTold.{letter_column, line_is_told_lem}
use Rattle.lines.proofs.RoundTrip.{listed, by_bytes, line_by, line_parts, item_eight}

-- lists by their places

get_first :
    (xs ys : List ℕ) (i : ℕ) → i < length xs → slice_get (xs ++ ys) i ≡ slice_get xs i
get_first [] ys i l = absurd (omega arith)
get_first (x ∷ xs) ys zero l = refl
get_first (x ∷ xs) ys (suc i) l = get_first xs ys i (omega arith)

same_places :
    (xs ys : List ℕ) → ((i : ℕ) → slice_get xs i ≡ slice_get ys i) → xs ≡ ys
same_places [] [] h = refl
same_places [] (y ∷ ys) h = let e : None ≡ Some y = h 0 in cc
same_places (x ∷ xs) [] h = let e : Some x ≡ None = h 0 in cc
same_places (x ∷ xs) (y ∷ ys) h =
    let e : Some x ≡ Some y = h 0 in
    let is : x ≡ y = cc in
    let rest = same_places xs ys (λ i. h (suc i)) in
    (λ i. is i ∷ rest i)

none_left : (n : ℕ) → ◌≡◌ {A = List ℕ} (drop n []) []
none_left zero = refl
none_left (suc n) = refl

-- a front over as many of a list
over :
    (front old : List ℕ) (i : ℕ) → length front ≤ i →
    slice_get (front ++ drop (length front) old) i ≡ slice_get old i
over [] old i l = refl
over (x ∷ xs) old zero l = absurd (omega arith)
over (x ∷ xs) [] (suc i) l =
    ap (λ (ys : List ℕ). slice_get (xs ++ ys) i) (sym (none_left (length xs)))
    ∙ over xs [] i (omega arith)
over (x ∷ xs) (y ∷ ys) (suc i) l = over xs ys i (omega arith)

column_one : (bs : List ℕ) (i : ℕ) → column_at bs (1 + i) ≡ slice_get bs i
column_one bs i = let e : 1 + i ≡ suc i = omega arith in ap (column_at bs) e

module _ (front old : List ℕ) (sixteen : length front ≡ 16) where
  abbrev laid : List ℕ
  laid = front ++ drop 16 old

  laid_first : StandsAt laid 1 front
  laid_first i l = column_one laid i ∙ get_first front (drop 16 old) i l

  laid_after : (i : ℕ) → 16 ≤ i → slice_get laid i ≡ slice_get old i
  laid_after i l =
      ap (λ (n : ℕ). slice_get (front ++ drop n old) i) (sym sixteen)
      ∙ over front old i (omega (arith, sixteen))

  laid_rest : SameAfter old laid
  laid_rest zero l = absurd (omega arith)
  laid_rest (suc i) l = laid_after i (omega arith)

  only_laid : (new : List ℕ) → StandsAt new 1 front → SameAfter old new → new ≡ laid
  only_laid new h rest =
      same_places new laid (λ i. elim (cases_lt i 16) [
        | inl l ↦
            let less : i < length front = omega (arith, sixteen) in
            sym (column_one new i) ∙ h i less ∙ sym (get_first front (drop 16 old) i less)
        | inr l ↦ rest (suc i) (omega arith) ∙ sym (laid_after i l)
      ])

-- the answer to writing

module _ {K : Type 0} (e : Entry K) (n : ℕ) where
  abbrev for_space : Result (Unit {0}) Refusal
  for_space = cond (ltb n 16) (Err SpaceShort) (Ok tt)

  with_cue : IsCue e.cue → line_written e n ≡ for_space
  with_cue h =
      cond-false (not (is_cue e.cue)) (Err NoSuchCue) for_space (ap not (is_of_cue e.cue h))

  no_cue : (IsCue e.cue → ⊥) → line_written e n ≡ Err NoSuchCue
  no_cue h =
      elim (cases_Bool (is_cue e.cue)) [
        | inl t ↦ absurd (h (cue_is e.cue t))
        | inr f ↦ cond-true (not (is_cue e.cue)) (Err NoSuchCue) for_space (ap not f)
      ]

  short : n < 16 → for_space ≡ Err SpaceShort
  short l = cond-true (ltb n 16) (Err SpaceShort) (Ok tt) (lt-ltb n 16 l)

  enough : 16 ≤ n → for_space ≡ Ok tt
  enough l = cond-false (ltb n 16) (Err SpaceShort) (Ok tt) (le-ltb n 16 l)

  only_written : (r : Result (Unit {0}) Refusal) → SaysWriting e n r → r ≡ line_written e n
  only_written (Ok x) s = sym (with_cue s.0 ∙ enough s.1)
  only_written (Err f) s =
      elim s [
        | inl p ↦ ap Err p.0 ∙ sym (no_cue p.1)
        | inr p ↦ ap Err p.0 ∙ sym (with_cue p.1 ∙ short p.2)
      ]

  written : SaysWriting e n (line_written e n)
  written =
      elim (cases_Bool (is_cue e.cue)) [
        | inl t ↦
            let h = cue_is e.cue t in
            elim (cases_lt n 16) [
              | inl l ↦
                  subst (SaysWriting e n) (sym (with_cue h ∙ short l)) (inr (refl, h, l))
              | inr l ↦ subst (SaysWriting e n) (sym (with_cue h ∙ enough l)) (h, l)
            ]
        | inr f ↦
            let h : IsCue e.cue → ⊥ = λ c. both_ways (is_cue e.cue) f (is_of_cue e.cue c) in
            subst (SaysWriting e n) (sym (no_cue h)) (inl (refl, h))
      ]

letter_is : {K : Type 0} (a : Act K) → letter_of a ∷ [] ≡ letter_text a
letter_is (Read k) = refl
letter_is (Write k) = refl
letter_is Commit = refl
letter_is Abort = refl

-- the same acts

module _ {K : Type 0} (alike : K → K → Bool) where
  abbrev ItemsAlike : Act K → Act K → Type 0
  ItemsAlike a b = (k l : K) → ItemIs a k → ItemIs b l → alike k l ≡ true

  alike_to : (a b k l : K) → alike a b ≡ true → a ≡ k → b ≡ l → alike k l ≡ true
  alike_to a b k l h x y = sym (λ i. alike (x i) (y i)) ∙ h

  same_to : (a b : Act K) → SameAct alike a b → (letter_of a ≡ letter_of b) × ItemsAlike a b
  same_to (Read a) (Read b) h = (refl, λ k l x y. alike_to a b k l h x y)
  same_to (Read a) (Write b) h = absurd h
  same_to (Read a) Commit h = absurd h
  same_to (Read a) Abort h = absurd h
  same_to (Write a) (Read b) h = absurd h
  same_to (Write a) (Write b) h = (refl, λ k l x y. alike_to a b k l h x y)
  same_to (Write a) Commit h = absurd h
  same_to (Write a) Abort h = absurd h
  same_to Commit (Read b) h = absurd h
  same_to Commit (Write b) h = absurd h
  same_to Commit Commit h = (refl, λ k l x y. absurd x)
  same_to Commit Abort h = absurd h
  same_to Abort (Read b) h = absurd h
  same_to Abort (Write b) h = absurd h
  same_to Abort Commit h = absurd h
  same_to Abort Abort h = (refl, λ k l x y. absurd x)

  same_from : (a b : Act K) → letter_of a ≡ letter_of b → ItemsAlike a b → SameAct alike a b
  same_from (Read a) (Read b) e h = h a b refl refl
  same_from (Read a) (Write b) e h = let z : ◌≡◌ {A = ℕ} 114 119 = e in omega arith
  same_from (Read a) Commit e h = let z : ◌≡◌ {A = ℕ} 114 99 = e in omega arith
  same_from (Read a) Abort e h = let z : ◌≡◌ {A = ℕ} 114 97 = e in omega arith
  same_from (Write a) (Read b) e h = let z : ◌≡◌ {A = ℕ} 119 114 = e in omega arith
  same_from (Write a) (Write b) e h = h a b refl refl
  same_from (Write a) Commit e h = let z : ◌≡◌ {A = ℕ} 119 99 = e in omega arith
  same_from (Write a) Abort e h = let z : ◌≡◌ {A = ℕ} 119 97 = e in omega arith
  same_from Commit (Read b) e h = let z : ◌≡◌ {A = ℕ} 99 114 = e in omega arith
  same_from Commit (Write b) e h = let z : ◌≡◌ {A = ℕ} 99 119 = e in omega arith
  same_from Commit Commit e h = tt
  same_from Commit Abort e h = let z : ◌≡◌ {A = ℕ} 99 97 = e in omega arith
  same_from Abort (Read b) e h = let z : ◌≡◌ {A = ℕ} 97 114 = e in omega arith
  same_from Abort (Write b) e h = let z : ◌≡◌ {A = ℕ} 97 119 = e in omega arith
  same_from Abort Commit e h = let z : ◌≡◌ {A = ℕ} 97 99 = e in omega arith
  same_from Abort Abort e h = tt

-- the line of an entry

item_at :
    (a b c d letter : ℕ) (item : List ℕ) →
    StandsAt (a ∷ b ∷ c ∷ d ∷ 32 ∷ letter ∷ 32 ∷ (item ++ 10 ∷ [])) 8 item
item_at a b c d letter item i l =
    let bs = a ∷ b ∷ c ∷ d ∷ 32 ∷ letter ∷ 32 ∷ (item ++ 10 ∷ []) in
    let e : 8 + i ≡ suc (suc (suc (suc (suc (suc (suc (suc i))))))) = omega arith in
    ap (column_at bs) e ∙ get_first item (10 ∷ []) i l

module _ {K : Type 0} (text : K → List ℕ) where
  item_stands : (bs : List ℕ) (a : Act K) → HasItem text bs a → StandsAt bs 8 (item_of text a)
  item_stands bs (Read k) h = h
  item_stands bs (Write k) h = h
  item_stands bs Commit h = h
  item_stands bs Abort h = h

  has_item : (bs : List ℕ) (a : Act K) → StandsAt bs 8 (item_of text a) → HasItem text bs a
  has_item bs (Read k) h = h
  has_item bs (Write k) h = h
  has_item bs Commit h = h
  has_item bs Abort h = h

  module _ (eight : (k : K) → Eight (text k)) (e : Entry K) where
    abbrev cue : List ℕ
    cue = number_in 4 e.cue

    abbrev letter : ℕ
    letter = letter_of e.act

    abbrev item : List ℕ
    item = item_of text e.act

    only_line_of : (bs : List ℕ) → IsLineOf text e bs → bs ≡ line_of text e
    only_line_of bs h =
        let long : 16 ≤ length bs = omega (arith, h.long) in
        let cued : between 0 4 bs ≡ cue =
        sym (stands_here bs 0 4 (omega arith) h.field h.cue.wide h.stands)
        ∙ only_justified 4 (decimal e.cue) h.field h.cue in
        let before = get_or_from_slice_get bs 4 32 0 h.letter.before in
        let lettered : get_or (between 5 6 bs) 0 0 ≡ letter =
        letter_column bs ∙ get_or_from_slice_get bs 5 letter 0 h.letter.letter in
        let after = get_or_from_slice_get bs 6 32 0 h.letter.after in
        let held : between 7 15 bs ≡ item =
        sym (stands_here bs 7 8 (omega arith) item (item_eight text eight e.act).eight
        (item_stands bs e.act h.item)) in
        let feed = get_or_from_slice_get bs 15 10 0 h.feed in
        sym (line_parts bs long ∙ take_all 16 bs (omega (arith, h.long)))
        ∙ (λ i. cued i ++ (before i ∷ lettered i ∷ after i ∷ held i) ++ feed i ∷ [])

    is_line_of : IsLineOf text e (line_of text e)
    is_line_of =
        let bs = line_of text e in
        let beside = 32 ∷ letter ∷ 32 ∷ item in
        let four : length cue ≡ 4 = length_justified 4 (decimal e.cue) in
        let by = by_bytes cue item [] letter four (item_eight text eight e.act).eight in
        record {
          long = by (λ c i. length (line_by c letter i) ≡ 16) refl;
          field = cue;
          cue = is_justified 4 (decimal e.cue);
          stands = λ i l.
              let less : i < length (cue ++ beside) = omega (arith, length-append cue beside) in
              column_one bs i
              ∙ get_first (cue ++ beside) (10 ∷ []) i less
              ∙ get_first cue beside i l;
          letter = record {
            before = by (λ c i. slice_get (line_by c letter i) 4 ≡ Some 32) refl;
            letter = by (λ c i. slice_get (line_by c letter i) 5 ≡ Some letter) refl;
            after = by (λ c i. slice_get (line_by c letter i) 6 ≡ Some 32) refl;
          };
          item =
              has_item bs e.act
              (by (λ c i. StandsAt (line_by c letter i) 8 i)
              (item_at _ _ _ _ letter (listed 8 item)));
          feed = by (λ c i. slice_get (line_by c letter i) 15 ≡ Some 10) refl;
        }

    -- what is left

    only_has_line :
        (old new : List ℕ) → HasLine text e old new → new ≡ line_of text e ++ drop 16 old
    only_has_line old new h =
        only_laid h.line old h.told.long new h.stands h.rest
        ∙ ap (λ (xs : List ℕ). xs ++ drop 16 old) (only_line_of h.line h.told)

    has_line :
        (old new : List ℕ) → new ≡ line_of text e ++ drop 16 old → HasLine text e old new
    has_line old new same =
        let long = is_line_of.long in
        subst (HasLine text e old) (sym same) (record {
          line = line_of text e;
          told = is_line_of;
          stands = laid_first (line_of text e) old long;
          rest = laid_rest (line_of text e) old long;
        })

    only_left :
        (r : Result (Unit {0}) Refusal) (old new : List ℕ) →
        LeavesWriting text e r old new → new ≡ space_after text e r old
    only_left (Ok x) old new h = only_has_line old new h
    only_left (Err f) old new h = h

    left :
        (r : Result (Unit {0}) Refusal) (old new : List ℕ) →
        new ≡ space_after text e r old → LeavesWriting text e r old new
    left (Ok x) old new h = has_line old new h
    left (Err f) old new h = h

  module _ (eight : (k : K) → Eight (text k)) where
    only_left_again :
        (r : Result (Option (Entry K)) Layer) (old new : List ℕ) →
        LeavesRewriting text r old new → new ≡ space_rewritten text r old
    only_left_again (Ok (Some e)) old new h = only_has_line eight e old new h
    only_left_again (Ok None) old new h = h
    only_left_again (Err f) old new h = h

    left_again :
        (r : Result (Option (Entry K)) Layer) (old new : List ℕ) →
        new ≡ space_rewritten text r old → LeavesRewriting text r old new
    left_again (Ok (Some e)) old new h = has_line eight e old new h
    left_again (Ok None) old new h = h
    left_again (Err f) old new h = h

-- the answers to rewriting and copying

module _ {K : Type 0} (parsed : List ℕ → Option K) (bs : List ℕ) (n : ℕ) where
  only_first : (q : Result (Option (Entry K)) LineRefusal) → SaysFirst parsed bs q →
      rewritten_of q n ≡ rewritten parsed bs n
  only_first q s =
      ap (λ (p : Result (Option (Entry K)) LineRefusal). rewritten_of p n)
      (((line_is_told_lem parsed).next bs q).0 s)

  only_rewritten :
      (r : Result (Option (Entry K)) Layer) → SaysRewriting parsed bs n r →
      r ≡ rewritten parsed bs n
  only_rewritten (Ok None) s = only_first (Ok None) s
  only_rewritten (Ok (Some e)) s =
      ap (rewritten_as e) (only_written e n (Ok tt) s.1) ∙ only_first (Ok (Some e)) s.0
  only_rewritten (Err (Line f)) s = only_first (Err f) s
  only_rewritten (Err (Book f)) s =
      ap (rewritten_as s.0) (only_written s.0 n (Err f) s.2) ∙ only_first (Ok (Some s.0)) s.1

  as_written :
      (e : Entry K) → SaysEntry parsed bs e → (w : Result (Unit {0}) Refusal) →
      SaysWriting e n w → SaysRewriting parsed bs n (rewritten_as e w)
  as_written e s (Ok x) w = (s, w)
  as_written e s (Err f) w = (e, s, w)

  of_first :
      (q : Result (Option (Entry K)) LineRefusal) → SaysFirst parsed bs q →
      SaysRewriting parsed bs n (rewritten_of q n)
  of_first (Ok None) s = s
  of_first (Ok (Some e)) s = as_written e s (line_written e n) (written e n)
  of_first (Err f) s = s

  says_rewritten : SaysRewriting parsed bs n (rewritten parsed bs n)
  says_rewritten =
      let q = next_in parsed bs in
      of_first q (((line_is_told_lem parsed).next bs q).1 refl)

  only_copied : (r : Result Bool Layer) → SaysCopying parsed bs n r → r ≡ copied parsed bs n
  only_copied (Ok true) s = ap copied_by (only_rewritten (Ok (Some s.0)) s.1)
  only_copied (Ok false) s = ap copied_by (only_rewritten (Ok None) s)
  only_copied (Err f) s = ap copied_by (only_rewritten (Err f) s)

  of_rewritten :
      (r : Result (Option (Entry K)) Layer) → SaysRewriting parsed bs n r →
      SaysCopying parsed bs n (copied_by r)
  of_rewritten (Ok None) s = s
  of_rewritten (Ok (Some e)) s = (e, s)
  of_rewritten (Err f) s = s

  says_copied : SaysCopying parsed bs n (copied parsed bs n)
  says_copied = of_rewritten (rewritten parsed bs n) says_rewritten

-- what is left after copying

module _ (bs old : List ℕ) (long : 16 ≤ length bs) where
  sixteen : length (take 16 bs) ≡ 16
  sixteen = length-take-le 16 bs long

  front_of : (i : ℕ) → i < 16 → slice_get (take 16 bs) i ≡ slice_get bs i
  front_of i l =
      sym (get_first (take 16 bs) (drop 16 bs) i (omega (arith, sixteen)))
      ∙ ap (λ (xs : List ℕ). slice_get xs i) (take-append-drop 16 bs)

  only_copy_left :
      (r : Result Bool Layer) (new : List ℕ) → LeavesCopying r bs old new →
      new ≡ space_copied r bs old
  only_copy_left (Ok true) new h =
      only_laid (take 16 bs) old sixteen new first h.1
    where
      first : StandsAt new 1 (take 16 bs)
      first i l =
          let less : i < 16 = omega (arith, sixteen) in
          h.0 (1 + i) (omega arith) ∙ column_one bs i ∙ sym (front_of i less)
  only_copy_left (Ok false) new h = h
  only_copy_left (Err f) new h = h

  copy_first : (c : ℕ) → c ≤ 16 → column_at (laid (take 16 bs) old sixteen) c ≡ column_at bs c
  copy_first zero l = refl
  copy_first (suc i) l =
      get_first (take 16 bs) (drop 16 old) i (omega (arith, sixteen)) ∙ front_of i (omega arith)

  copy_left :
      (r : Result Bool Layer) (new : List ℕ) → new ≡ space_copied r bs old →
      LeavesCopying r bs old new
  copy_left (Ok true) new h =
      subst (LeavesCopying (Ok true) bs old) (sym h)
      (copy_first, laid_rest (take 16 bs) old sixteen)
  copy_left (Ok false) new h = h
  copy_left (Err f) new h = h

-- reading back

module _ {K : Type 0} (alike : K → K → Bool) (parsed : List ℕ → Option K) (bs : List ℕ) (e : Entry K) where
  says_again : ReadsBack alike parsed bs e → (f : Entry K) × SaysEntry parsed bs f × IsAgain alike e f
  says_again r =
      let same = same_to alike e.act r.found.act r.same.act in (
        r.found,
        ((line_is_told_lem parsed).line bs (Ok r.found)).1 (sym r.read),
        record { cue = r.same.cue; letter = same.0; items = same.1 },
      )

  again_read : (f : Entry K) × SaysEntry parsed bs f × IsAgain alike e f → ReadsBack alike parsed bs e
  again_read h =
      record {
        found = h.0;
        read = sym (((line_is_told_lem parsed).line bs (Ok h.0)).0 h.1);
        same = record { cue = h.2.cue; act = same_from alike e.act h.0.act h.2.letter h.2.items };
      }

-- the laws

module _ {K : Type 0} (text : K → List ℕ) (eight : (k : K) → Eight (text k)) where
  pub writing_is_told_lem : WritingIsTold text
  writing_is_told_lem = record {
    answer = λ e n r.
        (only_written e n r, λ is. subst (SaysWriting e n) (sym is) (written e n));
    letter = letter_is;
    same = λ alike a b. (same_to alike a b, λ p. same_from alike a b p.0 p.1);
    line = λ e bs. (
      only_line_of text eight e bs,
      λ is. subst (IsLineOf text e) (sym is) (is_line_of text eight e),
    );
    space = λ e r old new. (only_left text eight e r old new, left text eight e r old new);
  }

  pub rewriting_is_told_lem : (parsed : List ℕ → Option K) → RewritingIsTold parsed text
  rewriting_is_told_lem parsed = record {
    answer = λ bs n r. (
      only_rewritten parsed bs n r,
      λ is. subst (SaysRewriting parsed bs n) (sym is) (says_rewritten parsed bs n),
    );
    space = λ r old new. (
      only_left_again text eight r old new,
      left_again text eight r old new,
    );
    copy = λ bs n r. (
      only_copied parsed bs n r,
      λ is. subst (SaysCopying parsed bs n) (sym is) (says_copied parsed bs n),
    );
    space_of_copy = λ r bs old new long. (
      only_copy_left bs old long r new,
      copy_left bs old long r new,
    );
    back = λ alike bs e. (says_again alike parsed bs e, again_read alike parsed bs e);
  }
