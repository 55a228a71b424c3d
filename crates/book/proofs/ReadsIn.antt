-- Reading in by its equation is reading in by its relation, and nothing else is. Assumes nothing.
use Rattle.std.proofs.Common.{◌≡◌, ℕ, zero, suc, ◌+◌, ◌<◌, List, [], ◌∷◌, ◌++◌, length, take, Some, Ok, Err, Option, Result, get_or, subst, sym, refl, ap, ◌∙◌, append_assoc, append-nil, arith}
use Rattle.std.specs.List.{slice_get}
use Rattle.refusals.specs.declared.LineRefusal.{LineRefusal}
use Rattle.refusals.specs.declared.Refusal.{Refusal}
use Rattle.refusals.specs.declared.Layer.{Layer}
use Rattle.refusals.specs.declared.Layer.TheVariants.{Line, Book}
use Rattle.history.specs.declared.Entry.{Entry}
use Rattle.lines.specs.Reading.{line_in}
use Rattle.book.specs.declared.sheets.ReadFault.{ReadFault}
use Rattle.book.specs.Entering.{entered}
use Rattle.book.specs.Reading.{Taken, lines_of, of_book, of_line, line_entered, step, read_from, read_in}
use Rattle.book.specs.ReadsIn.{SaysNext, Refuses, IsAnswer, ReadsIn}
use Rattle.book.proofs.Entering.{entered_free}

module _ {K : Type 0} (parsed : List ℕ → Option K) (places : ℕ) where
  -- a line, by what it adds

  next_by : (es : List (Entry K)) (line : List ℕ) (e d : Entry K) (p : Result ℕ Refusal) → line_in parsed line ≡ Ok d → entered places es d.cue ≡ p → of_book d p ≡ Ok e → SaysNext parsed places es line e
  next_by es line e d (Ok p) says is h =
      let same : d ≡ e = cc in
      let next = (entered_free places es d.cue p is).next in
      subst (SaysNext parsed places es line) same (record { says = says; place = is ∙ ap Ok next })
  next_by es line e d (Err f) says is h = absurd (let z : ◌≡◌ {A = ℕ} 0 1 = cc in omega arith)

  next_of : (es : List (Entry K)) (line : List ℕ) (e : Entry K) (r : Result (Entry K) LineRefusal) → line_in parsed line ≡ r → of_line places es r ≡ Ok e → SaysNext parsed places es line e
  next_of es line e (Ok d) is h = next_by es line e d (entered places es d.cue) is refl h
  next_of es line e (Err f) is h = absurd (let z : ◌≡◌ {A = ℕ} 0 1 = cc in omega arith)

  -- an entry that a line adds gets the next place
  pub line_accepted : (es : List (Entry K)) (line : List ℕ) (e : Entry K) → line_entered parsed places es line ≡ Ok e → entered places es e.cue ≡ Ok (length es + 1)
  line_accepted es line e h = (next_of es line e (line_in parsed line) refl h).place

  refused_by : (es : List (Entry K)) (line : List ℕ) (f : Layer) (d : Entry K) (p : Result ℕ Refusal) → line_in parsed line ≡ Ok d → entered places es d.cue ≡ p → of_book d p ≡ Err f → Refuses parsed places es line f
  refused_by es line f d (Ok p) says is h = absurd (let z : ◌≡◌ {A = ℕ} 0 1 = cc in omega arith)
  refused_by es line f d (Err g) says is h =
      let same : Book g ≡ f = cc in
      subst (Refuses parsed places es line) same (record { entry = d; says = says; refused = is })

  refused_of : (es : List (Entry K)) (line : List ℕ) (f : Layer) (r : Result (Entry K) LineRefusal) → line_in parsed line ≡ r → of_line places es r ≡ Err f → Refuses parsed places es line f
  refused_of es line f (Ok d) is h = refused_by es line f d (entered places es d.cue) is refl h
  refused_of es line f (Err g) is h =
      let same : Line g ≡ f = cc in
      subst (Refuses parsed places es line) same is

  entered_next : (es : List (Entry K)) (line : List ℕ) (e : Entry K) → SaysNext parsed places es line e → line_entered parsed places es line ≡ Ok e
  entered_next es line e h = ap (of_line places es) h.says ∙ ap (of_book e) h.place

  entered_refused : (es : List (Entry K)) (line : List ℕ) (f : Layer) → Refuses parsed places es line f → line_entered parsed places es line ≡ Err f
  entered_refused es line (Line f) h = ap (of_line places es) h
  entered_refused es line (Book f) h = ap (of_line places es) h.says ∙ ap (of_book h.entry) h.refused

  -- the relation with n lines entered and others to come

  abbrev AnswersFrom : ℕ → List (Entry K) → List (List ℕ) → ℕ → Result ℕ ReadFault → Type 0
  AnswersFrom n es ls k (Ok m) = (length ls ≡ k) × (m ≡ n + k)
  AnswersFrom n es ls k (Err f) = (k < length ls) × (f.line ≡ n + k + 1) × Refuses parsed places es (get_or ls k []) f.layer

  record ReadsInFrom (n : ℕ) (es : List (Entry K)) (ls : List (List ℕ)) (a : Result ℕ ReadFault) (all : List (Entry K)) : Type 0 where
    said : List (Entry K)
    entries : all ≡ es ++ said
    lines : (i : ℕ) (e : Entry K) → slice_get said i ≡ Some e → SaysNext parsed places (es ++ take i said) (get_or ls i []) e
    answer : AnswersFrom n (es ++ said) ls (length said) a

  none_said : (P : ℕ → Entry K → Type 0) (i : ℕ) (e : Entry K) → slice_get {X = Entry K} [] i ≡ Some e → P i e
  none_said P i e h = absurd (let z : ◌≡◌ {A = ℕ} 0 1 = cc in omega arith)

  -- no line is left
  from_none : (n : ℕ) (es : List (Entry K)) → ReadsInFrom n es [] (Ok n) es
  from_none n es =
      record {
        said = [];
        entries = sym (append-nil es);
        lines = none_said (λ i e. SaysNext parsed places (es ++ take {A = Entry K} i []) (get_or {A = List ℕ} [] i []) e);
        answer = (refl, omega arith);
      }

  -- the next line is refused
  from_fault : (n : ℕ) (es : List (Entry K)) (l : List ℕ) (ls : List (List ℕ)) (f : Layer) → line_entered parsed places es l ≡ Err f → ReadsInFrom n es (l ∷ ls) (Err (record { line = n + 1; layer = f })) es
  from_fault n es l ls f is =
      record {
        said = [];
        entries = sym (append-nil es);
        lines = none_said (λ i e. SaysNext parsed places (es ++ take {A = Entry K} i []) (get_or (l ∷ ls) i []) e);
        answer = (omega arith, omega arith, subst (λ xs. Refuses parsed places xs l f) (sym (append-nil es)) (refused_of es l f (line_in parsed l) refl is));
      }

  -- the next line is entered

  answers_more : (n k : ℕ) (es fs : List (Entry K)) (l : List ℕ) (ls : List (List ℕ)) (a : Result ℕ ReadFault) → es ≡ fs → AnswersFrom (n + 1) es ls k a → AnswersFrom n fs (l ∷ ls) (suc k) a
  answers_more n k es fs l ls (Ok m) same h = (omega (arith, h.0), omega (arith, h.1))
  answers_more n k es fs l ls (Err f) same h = (omega (arith, h.0), omega (arith, h.1), subst (λ xs. Refuses parsed places xs (get_or ls k []) f.layer) same h.2)

  lines_more : (es said : List (Entry K)) (e : Entry K) (l : List ℕ) (ls : List (List ℕ)) → SaysNext parsed places es l e → ((i : ℕ) (d : Entry K) → slice_get said i ≡ Some d → SaysNext parsed places ((es ++ e ∷ []) ++ take i said) (get_or ls i []) d) → (i : ℕ) (d : Entry K) → slice_get (e ∷ said) i ≡ Some d → SaysNext parsed places (es ++ take i (e ∷ said)) (get_or (l ∷ ls) i []) d
  lines_more es said e l ls here after zero d h =
      let same : e ≡ d = cc in
      subst (SaysNext parsed places (es ++ []) l) same (subst (λ xs. SaysNext parsed places xs l e) (sym (append-nil es)) here)
  lines_more es said e l ls here after (suc i) d h =
      subst (λ xs. SaysNext parsed places xs (get_or ls i []) d) (append_assoc es (e ∷ []) (take i said)) (after i d h)

  from_more : (n : ℕ) (es : List (Entry K)) (l : List ℕ) (ls : List (List ℕ)) (e : Entry K) (a : Result ℕ ReadFault) (all : List (Entry K)) → line_entered parsed places es l ≡ Ok e → ReadsInFrom (n + 1) (es ++ e ∷ []) ls a all → ReadsInFrom n es (l ∷ ls) a all
  from_more n es l ls e a all is h =
      record {
        said = e ∷ h.said;
        entries = h.entries ∙ append_assoc es (e ∷ []) h.said;
        lines = lines_more es h.said e l ls (next_of es l e (line_in parsed l) refl is) h.lines;
        answer = answers_more n (length h.said) ((es ++ e ∷ []) ++ h.said) (es ++ e ∷ h.said) l ls a (append_assoc es (e ∷ []) h.said) h.answer;
      }

  reads_from : (n : ℕ) (es : List (Entry K)) (ls : List (List ℕ)) → ReadsInFrom n es ls (read_from parsed places n es ls).answer (read_from parsed places n es ls).entries
  reads_from n es [] = from_none n es
  reads_from n es (l ∷ ls) = go (λ e. reads_from (n + 1) (es ++ e ∷ []) ls) (line_entered parsed places es l) refl
    where
      go : ((e : Entry K) → ReadsInFrom (n + 1) (es ++ e ∷ []) ls (read_from parsed places (n + 1) (es ++ e ∷ []) ls).answer (read_from parsed places (n + 1) (es ++ e ∷ []) ls).entries) → (r : Result (Entry K) Layer) → line_entered parsed places es l ≡ r → ReadsInFrom n es (l ∷ ls) (step parsed n es (λ e. read_from parsed places (n + 1) (es ++ e ∷ []) ls) r).answer (step parsed n es (λ e. read_from parsed places (n + 1) (es ++ e ∷ []) ls) r).entries
      go more (Ok e) is = from_more n es l ls e (read_from parsed places (n + 1) (es ++ e ∷ []) ls).answer (read_from parsed places (n + 1) (es ++ e ∷ []) ls).entries is (more e)
      go more (Err f) is = from_fault n es l ls f is

  -- from the first line

  answer_of : (es : List (Entry K)) (ls : List (List ℕ)) (k : ℕ) (a : Result ℕ ReadFault) → AnswersFrom 0 es ls k a → IsAnswer parsed places es ls k a
  answer_of es ls k (Ok m) h = record { all = h.0; count = omega (arith, h.1) }
  answer_of es ls k (Err f) h = record { another = h.0; number = omega (arith, h.1); refused = h.2 }

  pub reads_in_lem : (es : List (Entry K)) (sheet : List ℕ) → ReadsIn parsed places es sheet (read_in parsed places es sheet)
  reads_in_lem es sheet =
      let h = reads_from 0 es (lines_of sheet) in
      record {
        said = h.said;
        entries = h.entries;
        lines = h.lines;
        answer = answer_of (es ++ h.said) (lines_of sheet) (length h.said) (read_in parsed places es sheet).answer h.answer;
      }

  pub reads_by : (es : List (Entry K)) (sheet : List ℕ) (a : Result ℕ ReadFault) (all : List (Entry K)) → a ≡ (read_in parsed places es sheet).answer → all ≡ (read_in parsed places es sheet).entries → ReadsIn parsed places es sheet (record { answer = a; entries = all })
  reads_by es sheet a all answer entries = subst (ReadsIn parsed places es sheet) (λ i. record { answer = sym answer i; entries = sym entries i }) (reads_in_lem es sheet)

  -- and no other

  answers_less : (n k : ℕ) (es fs : List (Entry K)) (l : List ℕ) (ls : List (List ℕ)) (a : Result ℕ ReadFault) → es ≡ fs → AnswersFrom n es (l ∷ ls) (suc k) a → AnswersFrom (n + 1) fs ls k a
  answers_less n k es fs l ls (Ok m) same h = (omega (arith, h.0), omega (arith, h.1))
  answers_less n k es fs l ls (Err f) same h = (omega (arith, h.0), omega (arith, h.1), subst (λ xs. Refuses parsed places xs (get_or ls k []) f.layer) same h.2)

  only_from : (n : ℕ) (es said : List (Entry K)) (ls : List (List ℕ)) (a : Result ℕ ReadFault) → ((i : ℕ) (e : Entry K) → slice_get said i ≡ Some e → SaysNext parsed places (es ++ take i said) (get_or ls i []) e) → AnswersFrom n (es ++ said) ls (length said) a → record { answer = a; entries = es ++ said } ≡ read_from parsed places n es ls
  only_from n es [] [] (Ok m) lines h =
      let count : m ≡ n = omega (arith, h.1) in
      (λ i. record { answer = Ok (count i); entries = append-nil es i })
  only_from n es [] [] (Err f) lines h = absurd (omega (arith, h.0))
  only_from n es [] (l ∷ ls) (Ok m) lines h = absurd (omega (arith, h.0))
  only_from n es [] (l ∷ ls) (Err f) lines h =
      let number : f.line ≡ n + 1 = omega (arith, h.1) in
      let is = entered_refused es l f.layer (subst (λ xs. Refuses parsed places xs l f.layer) (append-nil es) h.2) in
      (λ i. record { answer = Err (record { line = number i; layer = f.layer }); entries = append-nil es i })
      ∙ sym (ap (step parsed n es (λ e. read_from parsed places (n + 1) (es ++ e ∷ []) ls)) is)
  only_from n es (e ∷ said) [] (Ok m) lines h = absurd (omega (arith, h.0))
  only_from n es (e ∷ said) [] (Err f) lines h = absurd (omega (arith, h.0))
  only_from n es (e ∷ said) (l ∷ ls) a lines h =
      let here = subst (λ xs. SaysNext parsed places xs l e) (append-nil es) (lines 0 e refl) in
      let same = sym (append_assoc es (e ∷ []) said) in
      let after = only_from (n + 1) (es ++ e ∷ []) said ls a (λ i d is. subst (λ xs. SaysNext parsed places xs (get_or ls i []) d) (sym (append_assoc es (e ∷ []) (take i said))) (lines (suc i) d is)) (answers_less n (length said) (es ++ e ∷ said) ((es ++ e ∷ []) ++ said) l ls a same h) in
      (λ i. record { answer = a; entries = same i })
      ∙ after
      ∙ sym (ap (step parsed n es (λ e. read_from parsed places (n + 1) (es ++ e ∷ []) ls)) (entered_next es l e here))

  from_answer : (es : List (Entry K)) (ls : List (List ℕ)) (k : ℕ) (a : Result ℕ ReadFault) → IsAnswer parsed places es ls k a → AnswersFrom 0 es ls k a
  from_answer es ls k (Ok m) h = (h.all, omega (arith, h.count))
  from_answer es ls k (Err f) h = (h.another, omega (arith, h.number), h.refused)

  pub reads_in_only : (es : List (Entry K)) (sheet : List ℕ) (t : Taken K) → ReadsIn parsed places es sheet t → t ≡ read_in parsed places es sheet
  reads_in_only es sheet t h =
      (λ i. record { answer = t.answer; entries = h.entries i })
      ∙ only_from 0 es h.said (lines_of sheet) t.answer h.lines (from_answer (es ++ h.said) (lines_of sheet) (length h.said) t.answer h.answer)
