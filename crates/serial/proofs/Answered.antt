-- What the search in the graph answers, said of the entries.
use Rattle.std.proofs.Common.{◌≡◌, ℕ, ◌≤◌, Bool, true, false, cond, ltb, ◌&&◌, List, [], ◌++◌, length, take, drop, Some, None, Ok, Err, Option, Result, sym, refl, ap, ◌∙◌, arith}
use Rattle.std.proofs.lemmas.List.{length-take-le, take-append-drop}
use Rattle.std.proofs.lemmas.Bool.{ltb-false}
use Rattle.std.proofs.lemmas.Option.{none-some}
use Rattle.refusals.specs.declared.Refusal.{Refusal}
use Rattle.refusals.specs.declared.Refusal.TheVariants.{ListShort, StripShort}
use Rattle.history.specs.declared.Entry.{Entry}
use Rattle.history.specs.Entries.{committed}
use Rattle.graphs.specs.declared.Found.{Found}
use Rattle.graphs.specs.declared.Found.TheVariants.{Order, Cycle}
use Rattle.graphs.specs.Answer.{search_refusal, refusal_in, Lists}
use Rattle.graphs.specs.Edges.{follows}
use Rattle.orders.specs.Orders.{among, first_where, orders}
use Rattle.orders.proofs.Among.{among_same}
use Rattle.serial.specs.declared.arrows.ConflictGraph.{ConflictGraph}
use Rattle.std.specs.Prelude.{IfOk}
use Rattle.history.specs.Answers.{AnswersOrder, ShownKeepsView}
use Rattle.history.specs.Order.{committed_cues, conflict_order, arrow, ConflictCycle}
use Rattle.equivalence.specs.Laws.{Sameness}
use Rattle.equivalence.proofs.FirstOrders.{order_right, view_right}
use Rattle.serial.specs.OrderAnswer.{order_refusal, answer_by, list_by, cycle_in, order_answer, order_list, shown_in}
use Rattle.history.specs.Marked.{marked}
use Rattle.serial.specs.Drawn.{drawn, Draws}
use Rattle.serial.proofs.Kept.{first_order, conflict_cycle}

module _ {K : Type 0} (alike : K → K → Bool) (es : List (Entry K)) where
  -- what the clauses of a call say of its answer and its list
  pub record Answered (list list' strip : List ℕ) (r : Result Found Refusal) : Type 0 where
    pub answer : r ≡ order_answer alike es list strip (cycle_in r list')
    pub cells : list' ≡ order_list alike es list strip (cycle_in r list')
    pub right : IfOk r (λ f. AnswersOrder alike es (shown_in f list'))
    pub view : Sameness alike → IfOk r (λ f. ShownKeepsView alike es (shown_in f list'))

  module _ (list list' strip : List ℕ) (long : length list' ≡ length list) where
    first_cells : (n : ℕ) → drop n list' ≡ drop n list → list' ≡ take n list' ++ drop n list
    first_cells n rest = sym (take-append-drop n list') ∙ ap (λ (xs : List ℕ). take n list' ++ xs) rest

    -- the first n cells, where there are as many
    first : (n : ℕ) → n ≤ length list → length (take n list') ≡ n
    first n few = length-take-le n list' (omega (arith, long))

    order_answered : (n : ℕ) → n ≤ length list → None ≡ order_refusal es (length list) (length strip) → conflict_order alike es ≡ Some (take n list') → drop n list' ≡ drop n list → Answered list list' strip (Ok (Order n))
    order_answered n few taken is rest =
        let size = first n few in
        record {
          answer = (λ i. Ok (Order (sym size i))) ∙ (λ i. answer_by (taken i) (sym is i) []);
          cells =
              first_cells n rest
              ∙ ap (λ (m : ℕ). take n list' ++ drop m list) (sym size)
              ∙ (λ i. list_by (taken i) (sym is i) [] list);
          right = order_right alike es (Some (take n list')) [] is (λ none. absurd (none-some (take n list') (sym none)));
          view = λ same. view_right alike same es (Some (take n list')) [] is;
        }

    cycle_answered : (n : ℕ) → n ≤ length list → None ≡ order_refusal es (length list) (length strip) → conflict_order alike es ≡ None → ConflictCycle alike es (take n list') → drop n list' ≡ drop n list → Answered list list' strip (Ok (Cycle n))
    cycle_answered n few taken is cycle rest =
        let size = first n few in
        let c = take n list' in
        record {
          answer = (λ i. Ok (Cycle (sym size i))) ∙ (λ i. answer_by (taken i) (sym is i) c);
          cells =
              first_cells n rest
              ∙ ap (λ (m : ℕ). take n list' ++ drop m list) (sym size)
              ∙ (λ i. list_by (taken i) (sym is i) c list);
          right = order_right alike es None c is (λ none. cycle);
          view = λ same. tt;
        }

  -- a list that is not refused has a cell for each committed cue
  roomy : (list strip : List ℕ) → None ≡ order_refusal es (length list) (length strip) → length (committed_cues es) ≤ length list
  roomy list strip taken = ltb-false (length list) (length (committed_cues es)) (go (ltb (length strip) 64) (ltb (length list) (length (committed_cues es))) taken)
    where
      go : (s t : Bool) → None ≡ cond s (Some StripShort) (cond t (Some ListShort) None) → t ≡ false
      go true t h = cc
      go false true h = cc
      go false false h = refl

  module _ (g : ConflictGraph) (draws : Draws alike es g) where
    same_numbers : among (marked g.cues) ≡ committed_cues es
    same_numbers = among_same (committed es) (marked g.cues) (λ m l h. draws.numbers m)

    same_edges : (i j : ℕ) → committed es i ≡ true → committed es j ≡ true → drawn g.edges i j ≡ arrow alike es i j
    same_edges i j ci cj =
        draws.edges i j
        ∙ ap (λ (b : Bool). b && (committed es j && arrow alike es i j)) ci
        ∙ ap (λ (b : Bool). b && arrow alike es i j) cj

    same_order : conflict_order alike es ≡ first_where (follows (drawn g.edges)) (orders (among (marked g.cues)))
    same_order = sym (first_order alike es (drawn g.edges) same_edges (marked g.cues) draws.numbers)

    pub same_refusal : (cells bytes : ℕ) → search_refusal (marked g.cues) cells bytes ≡ order_refusal es cells bytes
    same_refusal cells bytes = ap (λ (us : List ℕ). cond (ltb bytes 64) (Some StripShort) (cond (ltb cells (length us)) (Some ListShort) None)) same_numbers

    pub answered : (list list' strip : List ℕ) → length list' ≡ length list → (r : Result Found Refusal) → refusal_in r ≡ search_refusal (marked g.cues) (length list) (length strip) → Lists (marked g.cues) (drawn g.edges) list list' r → Answered list list' strip r
    answered list list' strip long (Ok (Order n)) refuses found =
        let taken = refuses ∙ same_refusal (length list) (length strip) in
        let all = found.all ∙ ap length same_numbers in
        order_answered list list' strip long n (omega (arith, roomy list strip taken, all)) taken (same_order ∙ found.first) found.rest
    answered list list' strip long (Ok (Cycle n)) refuses found =
        let taken = refuses ∙ same_refusal (length list) (length strip) in
        cycle_answered list list' strip long n found.fits taken (same_order ∙ found.none)
        (conflict_cycle alike es (drawn g.edges) same_edges (marked g.cues) draws.numbers (take n list') found.cycle) found.rest
    answered list list' strip long (Err e) refuses same =
        let refused = refuses ∙ same_refusal (length list) (length strip) in
        record {
          answer = ap (λ (o : Option Refusal). answer_by o (conflict_order alike es) []) refused;
          cells = same ∙ ap (λ (o : Option Refusal). list_by o (conflict_order alike es) [] list) refused;
          right = tt;
          view = λ same. tt;
        }
