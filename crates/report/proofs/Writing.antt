-- The report, from its lines. Assumes nothing.
use Rattle.std.proofs.Common.{◌≡◌, ℕ, ◌+◌, ◌*◌, ◌≤◌, min, Bool, cond, ltb, List, [], ◌∷◌, ◌++◌, length, take, drop, replicate, decimal, Some, None, Ok, Err, Option, Result, subst, sym, refl, ap, ◌∙◌, arith}
use Rattle.std.specs.List.{flat_map}
use Rattle.std.proofs.lemmas.List.{length-append, length-replicate, length-take}
use Rattle.std.proofs.lemmas.Bool.{cond-false, le-ltb}
use Rattle.std.proofs.lemmas.Option.{none-some}
use Rattle.refusals.specs.declared.Refusal.{Refusal}
use Rattle.refusals.specs.declared.Refusal.TheVariants.{ListShort, StripShort}
use Rattle.columns.specs.Columns.{number_in}
use Rattle.columns.proofs.Blanks.{length_justified}
use Rattle.orders.proofs.Among.{among_short}
use Rattle.items.specs.declared.Axis.{Axis}
use Rattle.items.specs.Kinds.{axis_alike, axis_in}
use Rattle.history.specs.declared.Entry.{Entry}
use Rattle.history.specs.Entries.{committed}
use Rattle.history.specs.Order.{committed_cues, conflict_order}
use Rattle.graphs.specs.declared.Found.{Found as Answer}
use Rattle.graphs.specs.declared.Found.TheVariants.{Order, Cycle}
use Rattle.serial.specs.OrderAnswer.{order_refusal, cycle_in, order_answer, order_list, shown_in}
use Rattle.history.specs.Answers.{AnswersOrder}
use Rattle.serial.proofs.Cells.{order_cells, cycle_cells, order_refused}
use Rattle.book.specs.declared.sheets.ReadFault.{ReadFault}
use Rattle.book.specs.Reading.{read_in}
use Rattle.book.proofs.ReadsIn.{reads_in_lem}
use Rattle.report.specs.Text.{order, cycle, line, order_line, report_text}
use Rattle.report.specs.Report.{OrderWritten, AnswersWritten, read_sheet, ShowsRight, Told, Written}

pub numbers_long : (ns : List ℕ) → length (flat_map (number_in 5) ns) ≡ 5 * length ns
numbers_long [] = refl
numbers_long (n ∷ ns) = omega (arith, length-append (number_in 5 n) (flat_map (number_in 5) ns), length_justified 5 (decimal n), numbers_long ns)

pub line_long : (word ns : List ℕ) → length word ≡ 5 → length (line word ns) ≡ 5 * length ns + 6
line_long word ns five =
    omega (
      arith,
      length-append word (flat_map (number_in 5) ns ++ 10 ∷ []),
      length-append (flat_map (number_in 5) ns) (10 ∷ []),
      numbers_long ns,
      five,
    )

-- how far a line of the first n cells takes a text
line_few : (word : List ℕ) (n most : ℕ) (cells text text' : List ℕ) → length word ≡ 5 → n ≤ most → text' ≡ text ++ line word (take n cells) → length text' ≤ length text + (5 * most + 6)
line_few word n most cells text text' five few is =
    let ns = take n cells in
    omega (
      arith,
      ap length is,
      length-append text (line word ns),
      line_long word ns five,
      length-take n cells,
      few,
    )

module _ {K : Type 0} (alike : K → K → Bool) (es : List (Entry K)) (list strip cells text text' : List ℕ) (n : ℕ) (wide : length cells ≡ 64) where
  -- what order promises of its answer
  record Promised (f : Answer) : Type 0 where
    answer : Ok f ≡ order_answer alike es list strip (cycle_in (Ok f) cells)
    after : cells ≡ order_list alike es list strip (cycle_in (Ok f) cells)
    right : AnswersOrder alike es (shown_in f cells)

  module _ (f : Answer) (answer : Ok f ≡ order_answer alike es list strip (cycle_in (Ok f) cells)) (after : cells ≡ order_list alike es list strip (cycle_in (Ok f) cells)) (right : AnswersOrder alike es (shown_in f cells)) where
    pub order_written : f ≡ Order n → text' ≡ text ++ line order (take n cells) → OrderWritten alike es text text'
    order_written which is =
        let p = subst Promised which (record { answer = answer; after = after; right = right }) in
        let found = order_cells [] list [] n cells (order_refusal es (length list) (length strip)) (conflict_order alike es) p.answer p.after in
        record {
          shown = [];
          cycle = λ none. absurd (none-some (take n cells) (sym none ∙ found.cells));
          small = line_few order n 64 cells text text' refl (omega (arith, found.few, wide)) is;
          is = is ∙ sym (ap (λ (o : Option (List ℕ)). text ++ order_line o []) found.cells);
        }

    pub cycle_written : f ≡ Cycle n → text' ≡ text ++ line cycle (take n cells) → OrderWritten alike es text text'
    cycle_written which is =
        let p = subst Promised which (record { answer = answer; after = after; right = right }) in
        let found = cycle_cells [] list (take n cells) n cells (order_refusal es (length list) (length strip)) (conflict_order alike es) p.answer p.after in
        record {
          shown = take n cells;
          cycle = λ none. p.right.0;
          small = line_few cycle n 64 cells text text' refl (omega (arith, found.few, wide)) is;
          is = is ∙ sym (ap (λ (o : Option (List ℕ)). text ++ order_line o (take n cells)) found.none);
        }

-- a list of 64 cells and a strip of 64 bytes are never refused
pub order_taken : {K : Type 0} (alike : K → K → Bool) (es : List (Entry K)) (list strip : List ℕ) (e : Refusal) → length list ≡ 64 → length strip ≡ 64 → Err e ≡ order_answer alike es list strip [] → ⊥
order_taken alike es list strip e wide long h =
    let taken : order_refusal es (length list) (length strip) ≡ None =
    (λ i. order_refusal es (wide i) (long i))
    ∙ cond-false (ltb 64 64) (Some StripShort) (cond (ltb 64 (length (committed_cues es))) (Some ListShort) None) (le-ltb 64 64 (omega arith))
    ∙ cond-false (ltb 64 (length (committed_cues es))) (Some ListShort) None (le-ltb 64 (length (committed_cues es)) (among_short (committed es))) in
    none-some e (sym taken ∙ order_refused [] list [] e (order_refusal es (length list) (length strip)) (conflict_order alike es) h)

-- a sheet that is read into a new book in a memory of 2,048 places
pub new_read : (memory es : List (Entry Axis)) (free : Entry Axis) (sheet : List ℕ) → memory ≡ replicate 2048 free → es ≡ [] → read_in axis_in (min (length memory) 4096) es sheet ≡ read_sheet sheet
new_read memory es free sheet room none =
    let places : min (length memory) 4096 ≡ 2048 = ap (λ (n : ℕ). min n 4096) (ap length room ∙ length-replicate 2048 free) in
    (λ i. read_in axis_in (places i) (none i) sheet)

-- the answers about what was read in are the report
pub answers_told : (sheet : List ℕ) (lines : ℕ) (es : List (Entry Axis)) (text : List ℕ) → Ok lines ≡ (read_sheet sheet).answer → es ≡ (read_sheet sheet).entries → AnswersWritten axis_alike es text → Told sheet text
answers_told sheet lines es text answer entries written =
    let there : AnswersWritten axis_alike (read_sheet sheet).entries text = subst (λ (zs : List (Entry Axis)). AnswersWritten axis_alike zs text) entries written in
    record {
      shown = there.shown;
      right = subst (λ (r : Result ℕ ReadFault). ShowsRight r (read_sheet sheet).entries there.shown) answer there.right;
      is = there.is ∙ ap (λ (r : Result ℕ ReadFault). report_text axis_alike r (read_sheet sheet).entries there.shown) answer;
    }

-- a text that is a report, laid at the front of the space
pub laid : (sheet space text text' space' : List ℕ) (n : ℕ) → Told sheet text → text' ≡ text → n ≡ length text' → n ≤ 388 → space' ≡ text' ++ drop n space → Written sheet space space' n
laid sheet space text text' space' n told same long few after =
    record {
      shown = told.shown;
      long = long ∙ ap length (same ∙ told.is);
      bytes = after ∙ ap (λ (bs : List ℕ). bs ++ drop n space) (same ∙ told.is);
      small = few;
      right = told.right;
      reads = reads_in_lem axis_in 2048 [] sheet;
    }
