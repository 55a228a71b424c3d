-- A line that was written is read again, and one that was read is written again. Assumes nothing.
use Rattle.std.proofs.Common.{◌≡◌, ℕ, zero, suc, ◌≤◌, Bool, true, false, cond, not, eqb, leb, List, [], ◌∷◌, ◌++◌, length, get_or, take, drop, replicate, Some, None, Ok, Err, decimal, Option, Result, sym, refl, ap, ◌∙◌, subst, arith}
use Rattle.std.specs.Prelude.{is_some}
use Rattle.std.specs.List.{between}
use Rattle.std.proofs.lemmas.List.{length-append, take_all, take-append-drop}
use Rattle.std.proofs.lemmas.Bool.{false≢true, and_parts, and_from, or_from, not_from_false, eqb-true, leb-true, le-leb, cond-true}
use Rattle.refusals.specs.declared.LineRefusal.{LineRefusal}
use Rattle.refusals.specs.declared.LineRefusal.TheVariants.{Shape, Letter, ItemField}
use Rattle.refusals.specs.declared.Refusal.{Refusal}
use Rattle.lists.specs.Lists.{has}
use Rattle.lists.proofs.Has.{has_append}
use Rattle.columns.specs.Columns.{after_blanks, justified, number, number_in}
use Rattle.columns.proofs.Blanks.{justified_none, justified_after_blanks, length_justified}
use Rattle.columns.proofs.Numbers.{number_number_in, number_in_number, number_fits, up_to_some}
use Rattle.columns.proofs.Unbroken.{number_in_unbroken}
use Rattle.items.specs.Fields.{Eight, Reads}
use Rattle.history.specs.declared.Act.{Act}
use Rattle.history.specs.declared.Act.TheVariants.{Read, Write, Commit, Abort}
use Rattle.history.specs.declared.Entry.{Entry}
use Rattle.history.specs.Entries.{is_cue}
use Rattle.lines.specs.Cutting.{CutLine, whole, field_of, line_cut}
use Rattle.lines.specs.Reading.{blank, on_item, on_none, of_cue, act_in, after_cue, entry_in, line_in, some, next_in}
use Rattle.lines.specs.Writing.{letter_of, item_of, line_of, SameAct, ReadsBack, WritesBack}
use Rattle.lines.specs.Writing.{line_written, rewritten_as, rewritten_of, rewritten}
use Rattle.lines.specs.Writing.{space_rewritten, space_copied}
use Rattle.lines.proofs.Cutting.{cut_whole, cut_well, whole_long}

-- the first n of a list, one by one
abbrev pub listed : ℕ → List ℕ → List ℕ
listed zero xs = []
listed (suc n) xs = get_or xs 0 0 ∷ listed n (drop 1 xs)

pub take_listed : (n : ℕ) (xs : List ℕ) → n ≤ length xs → take n xs ≡ listed n xs
take_listed zero xs h = refl
take_listed (suc n) [] h = absurd (omega arith)
take_listed (suc n) (x ∷ xs) h = ap (λ ys. x ∷ ys) (take_listed n xs (omega arith))

listed_all : (n : ℕ) (xs : List ℕ) → length xs ≡ n → listed n xs ≡ xs
listed_all n xs h = sym (take_listed n xs (omega arith)) ∙ take_all n xs (omega arith)

-- the bytes of a line, by its fields
abbrev pub line_by : List ℕ → ℕ → List ℕ → List ℕ
line_by cue letter item = cue ++ (32 ∷ letter ∷ 32 ∷ item) ++ 10 ∷ []

abbrev fields_by : List ℕ → ℕ → List ℕ → CutLine
fields_by cue letter item = record { cue = field_of 1 cue; letter = field_of 6 (letter ∷ []); item = field_of 8 item; spaced = true }

module _ (cue item rest : List ℕ) (letter : ℕ) (four : length cue ≡ 4) (eight : length item ≡ 8) where
  -- what holds of fields byte by byte
  pub by_bytes : (P : List ℕ → List ℕ → Type 0) → P (listed 4 cue) (listed 8 item) → P cue item
  by_bytes P h = subst (λ xs. P xs item) (listed_all 4 cue four) (subst (λ xs. P (listed 4 cue) xs) (listed_all 8 item eight) h)

  length_line : length (line_by cue letter item) ≡ 16
  length_line = by_bytes (λ c i. length (line_by c letter i) ≡ 16) refl

  line_cut_lem : line_cut (line_by cue letter item ++ rest) ≡ fields_by cue letter item
  line_cut_lem = by_bytes (λ c i. line_cut (line_by c letter i ++ rest) ≡ fields_by c letter i) refl

  line_whole : has 10 cue ≡ false → has 10 item ≡ false → eqb letter 10 ≡ false → whole (line_by cue letter item ++ rest) ≡ true
  line_whole c i l =
      let bs = line_by cue letter item ++ rest in
      let front : take 15 bs ≡ cue ++ 32 ∷ letter ∷ 32 ∷ item = by_bytes (λ c i. take 15 (line_by c letter i ++ rest) ≡ c ++ 32 ∷ letter ∷ 32 ∷ i) refl in
      let last : get_or bs 15 0 ≡ 10 = by_bytes (λ c i. get_or (line_by c letter i ++ rest) 15 0 ≡ 10) refl in
      let none : has 10 (take 15 bs) ≡ false =
      ap (has 10) front ∙ has_append 10 cue (32 ∷ letter ∷ 32 ∷ item) ∙ or_from (has 10 cue) _ c (or_from (eqb letter 10) (has 10 item) l i) in
      and_from (leb 16 (length bs)) _
      (le-leb 16 (length bs) (omega (arith, length-append (line_by cue letter item) rest, length_line)))
      (and_from (not (has 10 (take 15 bs))) _ (not_from_false _ none) (ap (λ (b : ℕ). eqb b 10) last))

-- the fields that are written

letter_unbroken : {K : Type 0} (act : Act K) → eqb (letter_of act) 10 ≡ false
letter_unbroken (Read a) = refl
letter_unbroken (Write a) = refl
letter_unbroken Commit = refl
letter_unbroken Abort = refl

module _ {K : Type 0} (text : K → List ℕ) where
  pub item_eight : ((a : K) → Eight (text a)) → (act : Act K) → Eight (item_of text act)
  item_eight eight (Read a) = eight a
  item_eight eight (Write a) = eight a
  item_eight eight Commit = record { eight = refl; unbroken = refl }
  item_eight eight Abort = record { eight = refl; unbroken = refl }

module _ {K : Type 0} (alike : K → K → Bool) (text : K → List ℕ) (parsed : List ℕ → Option K) where
  -- the fields that say an act are read as the same act
  record ActBack (act : Act K) : Type 0 where
    found : Act K
    read : act_in parsed (letter_of act) (item_of text act) ≡ Ok found
    same : SameAct alike act found

  item_back : (test : K → Bool) (o : Option K) → Reads test o → (k : K) × (o ≡ Some k) × (test k ≡ true)
  item_back test None h = absurd h
  item_back test (Some k) h = (k, refl, h)

  act_back : ((a : K) → Reads (alike a) (parsed (text a))) → (act : Act K) → ActBack act
  act_back back (Read a) =
      let p = item_back (alike a) (parsed (text a)) (back a) in
      record { found = Read p.0; read = ap (on_item Read) p.1; same = p.2 }
  act_back back (Write a) =
      let p = item_back (alike a) (parsed (text a)) (back a) in
      record { found = Write p.0; read = ap (on_item Write) p.1; same = p.2 }
  act_back back Commit = record { found = Commit; read = refl; same = tt }
  act_back back Abort = record { found = Abort; read = refl; same = tt }

  -- what was written is read as the same entry, whatever follows it
  pub reads_back : ((a : K) → Eight (text a)) → ((a : K) → Reads (alike a) (parsed (text a))) → (e : Entry K) → is_cue e.cue ≡ true → (rest : List ℕ) → ReadsBack alike parsed (line_of text e ++ rest) e
  reads_back eight back e is rest =
      let n = e.cue in
      let cue = number_in 4 n in
      let letter = letter_of e.act in
      let item = item_of text e.act in
      let bs = line_of text e ++ rest in
      let small : n ≤ 64 = leb-true n 64 (and_parts (leb 1 n) (leb n 64) is).1 in
      let wide = item_eight text eight e.act in
      let four : length cue ≡ 4 = length_justified 4 (decimal n) in
      let fit : whole bs ≡ true =
      line_whole cue item rest letter four wide.eight (number_in_unbroken 4 n (omega arith) (omega arith) (omega arith)) wide.unbroken (letter_unbroken e.act) in
      let a = act_back back e.act in
      record {
        found = record { cue = n; act = a.found };
        read =
            cond-true (whole bs) (entry_in parsed (line_cut bs)) (Err Shape) fit
            ∙ ap (entry_in parsed) (line_cut_lem cue item rest letter four wide.eight)
            ∙ ap (after_cue parsed (fields_by cue letter item)) (number_number_in 4 n (omega arith) (omega arith) (omega arith))
            ∙ ap (of_cue n) a.read;
        same = record { cue = refl; act = a.same };
      }

-- an answer, where a test said so
ok_where : {X : Type 0} (t : Bool) (r : Result X LineRefusal) (f : LineRefusal) (x : X) → cond t r (Err f) ≡ Ok x → (t ≡ true) × (r ≡ Ok x)
ok_where true r f x h = (refl, h)
ok_where false r f x h = absurd (let z : ◌≡◌ {A = ℕ} 0 1 = cc in omega arith)

-- by the test that an answer came from
by_test : {X P : Type 0} (t : Bool) (r s : Result X LineRefusal) (x : X) → (t ≡ true → r ≡ Ok x → P) → (s ≡ Ok x → P) → cond t r s ≡ Ok x → P
by_test true r s x here there h = here refl h
by_test false r s x here there h = there h

blank_nothing : (field rest : List ℕ) → after_blanks field ≡ rest → blank field ≡ true → rest ≡ []
blank_nothing field [] e h = refl
blank_nothing field (b ∷ bs) e h = absurd (false≢true (rw e at h))

-- a blank field holds blanks
pub blank_all : (field : List ℕ) → length field ≡ 8 → blank field ≡ true → replicate 8 32 ≡ field
blank_all field eight h =
    sym (justified_none 8)
    ∙ ap (justified 8) (sym (blank_nothing field (after_blanks field) refl h))
    ∙ ap (λ (n : ℕ). justified n (after_blanks field)) (sym eight)
    ∙ justified_after_blanks field

-- the first 16 bytes, by the fields and the columns between them
pub line_parts : (bs : List ℕ) → 16 ≤ length bs → between 0 4 bs ++ (get_or bs 4 0 ∷ get_or (between 5 6 bs) 0 0 ∷ get_or bs 6 0 ∷ between 7 15 bs) ++ get_or bs 15 0 ∷ [] ≡ take 16 bs
line_parts bs h =
    subst (λ xs. between 0 4 xs ++ (get_or xs 4 0 ∷ get_or (between 5 6 xs) 0 0 ∷ get_or xs 6 0 ∷ between 7 15 xs) ++ get_or xs 15 0 ∷ [] ≡ take 16 xs)
    (ap (λ xs. xs ++ drop 16 bs) (sym (take_listed 16 bs h)) ∙ take-append-drop 16 bs)
    refl

module _ {K : Type 0} (text : K → List ℕ) (parsed : List ℕ → Option K) where
  of_cue_lem : (n : ℕ) (r : Result (Act K) LineRefusal) (e : Entry K) → of_cue n r ≡ Ok e → (n ≡ e.cue) × (r ≡ Ok e.act)
  of_cue_lem n (Ok act) e h =
      let is : record { cue = n; act = act } ≡ e = cc in
      (ap (λ (f : Entry K). f.cue) is, ap (λ (f : Entry K). Ok f.act) is)
  of_cue_lem n (Err f) e h = absurd (let z : ◌≡◌ {A = ℕ} 0 1 = cc in omega arith)

  -- what was read from the fields of a line
  record Said (l : CutLine) (e : Entry K) : Type 0 where
    cue : number l.cue.bytes ≡ Some e.cue
    spaced : l.spaced ≡ true
    act : act_in parsed (get_or l.letter.bytes 0 0) l.item.bytes ≡ Ok e.act

  said : (l : CutLine) (o : Option ℕ) (e : Entry K) → number l.cue.bytes ≡ o → after_cue parsed l o ≡ Ok e → Said l e
  said l None e is h = absurd (let z : ◌≡◌ {A = ℕ} 0 1 = cc in omega arith)
  said l (Some n) e is h =
      let p = ok_where l.spaced (of_cue n (act_in parsed (get_or l.letter.bytes 0 0) l.item.bytes)) Letter e h in
      let q = of_cue_lem n _ e p.1 in
      record { cue = is ∙ ap Some q.0; spaced = p.0; act = q.1 }

  some_read : (r : Result (Entry K) LineRefusal) (e : Entry K) → some parsed r ≡ Ok (Some e) → r ≡ Ok e
  some_read (Ok f) e h = let same : f ≡ e = cc in ap Ok same
  some_read (Err f) e h = absurd (let z : ◌≡◌ {A = ℕ} 0 1 = cc in omega arith)

  as_read :
      (d e : Entry K) (w : Result (Unit {0}) Refusal) → rewritten_as d w ≡ Ok (Some e) → d ≡ e
  as_read d e (Ok x) h = cc
  as_read d e (Err f) h = absurd (let z : ◌≡◌ {A = ℕ} 0 1 = cc in omega arith)

  -- what was read, by the answer to rewriting it
  rewritten_read :
      (r : Result (Option (Entry K)) LineRefusal) (n : ℕ) (e : Entry K) →
      rewritten_of r n ≡ Ok (Some e) → r ≡ Ok (Some e)
  rewritten_read (Ok None) n e h = absurd (let z : ◌≡◌ {A = ℕ} 0 1 = cc in omega arith)
  rewritten_read (Ok (Some d)) n e h =
      ap (λ (x : Entry K). Ok (Some x)) (as_read d e (line_written d n) h)
  rewritten_read (Err f) n e h = absurd (let z : ◌≡◌ {A = ℕ} 0 1 = cc in omega arith)

  module _ (exact : (bs : List ℕ) (a : K) → length bs ≡ 8 → parsed bs ≡ Some a → text a ≡ bs) where
    -- an act is written as the letter and the item field that it was read from

    abbrev Written : ℕ → List ℕ → Act K → Type 0
    Written letter field act = (letter_of act ≡ letter) × (item_of text act ≡ field)

    on_item_lem : (make : K → Act K) (letter : ℕ) (field : List ℕ) (o : Option K) (act : Act K) → ((a : K) → parsed field ≡ Some a → Written letter field (make a)) → parsed field ≡ o → on_item make o ≡ Ok act → Written letter field act
    on_item_lem make letter field None act w is h = absurd (let z : ◌≡◌ {A = ℕ} 0 1 = cc in omega arith)
    on_item_lem make letter field (Some a) act w is h = let same : make a ≡ act = cc in subst (Written letter field) same (w a is)

    on_none_lem : (act : Act K) (letter : ℕ) (field : List ℕ) (found : Act K) → (blank field ≡ true → Written letter field act) → on_none act field ≡ Ok found → Written letter field found
    on_none_lem act letter field found w h =
        let p = ok_where (blank field) (Ok act) ItemField found h in
        let same : act ≡ found = let both = p.1 in cc in
        subst (Written letter field) same (w p.0)

    act_written : (letter : ℕ) (field : List ℕ) (act : Act K) → length field ≡ 8 → act_in parsed letter field ≡ Ok act → Written letter field act
    act_written letter field act eight =
        by_test (eqb letter 114) _ _ act (λ t. on_item_lem Read letter field (parsed field) act (λ a is. (sym (eqb-true letter 114 t), exact field a eight is)) refl)
        (by_test (eqb letter 119) _ _ act (λ t. on_item_lem Write letter field (parsed field) act (λ a is. (sym (eqb-true letter 119 t), exact field a eight is)) refl)
        (by_test (eqb letter 99) _ _ act (λ t. on_none_lem Commit letter field act (λ b. (sym (eqb-true letter 99 t), blank_all field eight b)))
        (by_test (eqb letter 97) _ _ act (λ t. on_none_lem Abort letter field act (λ b. (sym (eqb-true letter 97 t), blank_all field eight b)))
        (λ h. absurd (let z : ◌≡◌ {A = ℕ} 0 1 = cc in omega arith)))))

    -- what was read is written as it stood
    pub written_again : (bs : List ℕ) (e : Entry K) → line_in parsed bs ≡ Ok e → line_of text e ≡ take 16 bs
    written_again bs e h =
        let p = ok_where (whole bs) (entry_in parsed (line_cut bs)) Shape e h in
        let long = whole_long bs p.0 in
        let well = cut_well bs (line_cut bs) (cut_whole bs p.0) in
        let s = said (line_cut bs) (number (between 0 4 bs)) e refl p.1 in
        let small = up_to_some 9999 (number (between 0 4 bs)) e.cue (number_fits 4 (between 0 4 bs) (omega (arith, well.cue_wide)) ∙ s.cue) in
        let cue : number_in 4 e.cue ≡ between 0 4 bs =
        ap (λ (w : ℕ). number_in w e.cue) (sym well.cue_wide) ∙ number_in_number (between 0 4 bs) e.cue s.cue (omega (arith, small.1)) in
        let w = act_written (get_or (between 5 6 bs) 0 0) (between 7 15 bs) e.act well.item_wide s.act in
        let blanks = and_parts (eqb (get_or bs 4 0) 32) (eqb (get_or bs 6 0) 32) s.spaced in
        let ends = and_parts (not (has 10 (take 15 bs))) (eqb (get_or bs 15 0) 10) (and_parts (leb 16 (length bs)) _ p.0).1 in
        (λ i. cue i ++ (sym (eqb-true _ 32 blanks.0) i ∷ w.0 i ∷ sym (eqb-true _ 32 blanks.1) i ∷ w.1 i) ++ sym (eqb-true _ 10 ends.1) i ∷ [])
        ∙ line_parts bs long

    -- the same of the next line of a sheet
    pub next_again : (bs : List ℕ) (e : Entry K) → next_in parsed bs ≡ Ok (Some e) → line_of text e ≡ take 16 bs
    next_again [] e h = absurd (let z : ◌≡◌ {A = ℕ} 0 1 = cc in omega arith)
    next_again (b ∷ bs) e h = written_again (b ∷ bs) e (some_read (line_in parsed (b ∷ bs)) e h)

    -- the law of lines, for exact kinds
    pub writes_back : WritesBack parsed text
    writes_back bs e sixteen h = written_again bs e h ∙ take_all 16 bs (omega arith)

    -- the line that was written of what was read has the bytes that stood there
    pub rewritten_same :
        (found : Option (Entry K)) (sheet space : List ℕ) (n : ℕ) →
        Ok found ≡ rewritten parsed sheet n →
        space_rewritten text (Ok found) space ≡ space_copied (Ok (is_some found)) sheet space
    rewritten_same None sheet space n h = refl
    rewritten_same (Some e) sheet space n h =
        ap (λ (xs : List ℕ). xs ++ drop 16 space)
        (next_again sheet e (rewritten_read (next_in parsed sheet) n e (sym h)))
