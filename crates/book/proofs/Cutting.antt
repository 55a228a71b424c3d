-- A sheet is its lines, those before a fault stand, and each that is read adds an entry.
use Rattle.std.proofs.Common.{◌≡◌, ℕ, zero, suc, ◌+◌, ◌-◌, ◌*◌, ◌/◌, ◌<◌, ◌≤◌, min, List, [], ◌∷◌, ◌++◌, length, get_or, take, drop, Ok, Err, Option, Result, subst, sym, refl, ap, ◌∙◌, arith}
use Rattle.std.specs.List.{flat_map}
use Rattle.std.proofs.lemmas.List.{length-drop, length-take, length-append, take_at, take-append-drop, take-take, drop-take}
use Rattle.refusals.specs.declared.Layer.{Layer}
use Rattle.history.specs.declared.Entry.{Entry}
use Rattle.book.specs.declared.sheets.ReadFault.{ReadFault}
use Rattle.book.specs.Reading.{lines_by, lines_of, line_entered, step, read_from, read_in}
use Rattle.book.specs.ReadsIn.{IsAnswer}
use Rattle.book.specs.Sheets.{SheetsAreLines, FaultsStand, CountsStand, EntriesStay}
use Rattle.book.proofs.Reading.{lines_more}
use Rattle.book.proofs.ReadsIn.{reads_in_lem}

lines_long : (n : ℕ) (bs : List ℕ) → length (lines_by n bs) ≡ n
lines_long zero bs = refl
lines_long (suc n) bs = omega (arith, lines_long n (drop 16 bs))

many : (bs : List ℕ) → length (lines_of bs) ≡ (length bs + 15) / 16
many bs = lines_long ((length bs + 15) / 16) bs

lines_together : (n : ℕ) (bs : List ℕ) → length bs ≤ n * 16 → flat_map (λ (line : List ℕ). line) (lines_by n bs) ≡ bs
lines_together zero [] h = refl
lines_together zero (b ∷ bs) h = absurd (omega arith)
lines_together (suc n) bs h =
    ap (λ (rest : List ℕ). take 16 bs ++ rest) (lines_together n (drop 16 bs) (omega (arith, length-drop 16 bs)))
    ∙ take-append-drop 16 bs

line_long : (n : ℕ) (bs : List ℕ) (i : ℕ) → i < n → length (get_or (lines_by n bs) i []) ≡ min 16 (length bs - i * 16)
line_long zero bs i h = absurd (omega arith)
line_long (suc n) bs zero h = length-take 16 bs ∙ omega arith
line_long (suc n) bs (suc i) h = line_long n (drop 16 bs) i (omega arith) ∙ omega (arith, length-drop 16 bs)

pub sheets_are_lines : SheetsAreLines
sheets_are_lines =
    record {
      together = λ sheet. lines_together ((length sheet + 15) / 16) sheet (omega arith);
      whole = λ sheet i h.
          let n = many sheet in
          line_long ((length sheet + 15) / 16) sheet i (omega arith) ∙ omega arith;
      some = λ sheet i h.
          let n = many sheet in
          let long = line_long ((length sheet + 15) / 16) sheet i (omega arith) in
          (omega arith, omega arith);
    }

-- the first lines are the lines of a front
lines_take : (m : ℕ) (bs : List ℕ) → m * 16 ≤ length bs → lines_of (take (m * 16) bs) ≡ take m (lines_of bs)
lines_take zero bs h = refl
lines_take (suc m) bs h =
    let front : suc m * 16 ≡ 16 + m * 16 = omega arith in
    let n = 16 + m * 16 in
    ap (λ (k : ℕ). lines_of (take k bs)) front
    ∙ lines_more (take n bs) (omega (arith, length-take n bs))
    ∙ (λ i. take-take 16 n bs (omega arith) i ∷ lines_of (drop-take 16 (m * 16) bs i))
    ∙ ap (λ (ls : List (List ℕ)). take 16 bs ∷ ls) (lines_take m (drop 16 bs) (omega (arith, length-drop 16 bs)))
    ∙ sym (ap (take (suc m)) (lines_more bs (omega arith)))

module _ {K : Type 0} (parsed : List ℕ → Option K) (places : ℕ) where
  record FaultFrom (n : ℕ) (es : List (Entry K)) (ls : List (List ℕ)) (f : ReadFault) (all : List (Entry K)) : Type 0 where
    index : ℕ
    number : f.line ≡ n + index + 1
    within : index < length ls
    before : read_from parsed places n es (take index ls) ≡ record { answer = Ok (n + index); entries = all }

  fault_from : (n : ℕ) (es : List (Entry K)) (ls : List (List ℕ)) (f : ReadFault) → (read_from parsed places n es ls).answer ≡ Err f → FaultFrom n es ls f (read_from parsed places n es ls).entries
  fault_from n es [] f h = cc
  fault_from n es (l ∷ ls) f h = go (λ e k. fault_from (n + 1) (es ++ e ∷ []) ls f k) (line_entered parsed places es l) refl h
    where
      go : ((e : Entry K) → (read_from parsed places (n + 1) (es ++ e ∷ []) ls).answer ≡ Err f → FaultFrom (n + 1) (es ++ e ∷ []) ls f (read_from parsed places (n + 1) (es ++ e ∷ []) ls).entries) → (r : Result (Entry K) Layer) → line_entered parsed places es l ≡ r → (step parsed n es (λ e. read_from parsed places (n + 1) (es ++ e ∷ []) ls) r).answer ≡ Err f → FaultFrom n es (l ∷ ls) f (step parsed n es (λ e. read_from parsed places (n + 1) (es ++ e ∷ []) ls) r).entries
      go onward (Ok e) is k =
          let more = onward e k in
          let count : n + 1 + more.index ≡ n + suc more.index = omega arith in
          record {
            index = suc more.index;
            number = omega (arith, more.number);
            within = omega (arith, more.within);
            before = ap (step parsed n es (λ e. read_from parsed places (n + 1) (es ++ e ∷ []) (take more.index ls))) is
                ∙ more.before
                ∙ (λ i. record { answer = Ok (count i); entries = (read_from parsed places (n + 1) (es ++ e ∷ []) ls).entries });
          }
      go onward (Err g) is k =
          let same : record { line = n + 1; layer = g } ≡ f = cc in
          let line = ap (λ (x : ReadFault). x.line) same in
          let count : n ≡ n + 0 = omega arith in
          record { index = 0; number = omega (arith, line); within = omega arith; before = (λ i. record { answer = Ok (count i); entries = es }) }

module _ {K : Type 0} (parsed : List ℕ → Option K) (places : ℕ) (es : List (Entry K)) (sheet : List ℕ) where
  -- the entries after it are those before it and what its lines said
  abbrev said : List (Entry K)
  said = (reads_in_lem parsed places es sheet).said

  reads : (read_in parsed places es sheet).entries ≡ es ++ said
  reads = (reads_in_lem parsed places es sheet).entries

  longer : length (read_in parsed places es sheet).entries ≡ length es + length said
  longer = ap length reads ∙ length-append es said

  answers : (r : Result ℕ ReadFault) → (read_in parsed places es sheet).answer ≡ r → IsAnswer parsed places (es ++ said) (lines_of sheet) (length said) r
  answers r is = subst (IsAnswer parsed places (es ++ said) (lines_of sheet) (length said)) is (reads_in_lem parsed places es sheet).answer

  fault_each : (f : ReadFault) → (read_in parsed places es sheet).answer ≡ Err f → length (read_in parsed places es sheet).entries ≡ length es + (f.line - 1)
  fault_each f is = let at = answers (Err f) is in omega (arith, longer, at.number)

  count_all : (n : ℕ) → (read_in parsed places es sheet).answer ≡ Ok n → n ≡ length (lines_of sheet)
  count_all n is = let at = answers (Ok n) is in at.count ∙ sym at.all

  count_each : (n : ℕ) → (read_in parsed places es sheet).answer ≡ Ok n → length (read_in parsed places es sheet).entries ≡ length es + n
  count_each n is = let at = answers (Ok n) is in omega (arith, longer, at.count)

  stay : take (length es) (read_in parsed places es sheet).entries ≡ es
  stay = ap (take (length es)) reads ∙ take_at es said (length es) refl

pub faults_stand : {K : Type 0} (parsed : List ℕ → Option K) → FaultsStand parsed
faults_stand parsed places es sheet f h =
    let at = fault_from parsed places 0 es (lines_of sheet) f h in
    let back : f.line - 1 ≡ at.index = omega (arith, at.number) in
    let fits : at.index * 16 ≤ length sheet = omega (arith, at.within, many sheet) in
    let count : 0 + at.index ≡ f.line - 1 = omega (arith, back) in
    record {
      first = omega (arith, at.number);
      within = omega (arith, at.number, at.within);
      before = ap (λ (k : ℕ). read_in parsed places es (take (k * 16) sheet)) back
          ∙ ap (read_from parsed places 0 es) (lines_take at.index sheet fits)
          ∙ at.before
          ∙ (λ i. record { answer = Ok (count i); entries = (read_in parsed places es sheet).entries });
      each = fault_each parsed places es sheet f h;
    }

pub counts_stand : {K : Type 0} (parsed : List ℕ → Option K) → CountsStand parsed
counts_stand parsed places es sheet n h =
    record { all = count_all parsed places es sheet n h; each = count_each parsed places es sheet n h }

pub entries_stay : {K : Type 0} (parsed : List ℕ → Option K) → EntriesStay parsed
entries_stay parsed places es sheet = stay parsed places es sheet
