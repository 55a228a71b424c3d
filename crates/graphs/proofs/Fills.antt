-- What the parts of a search come to. Assumes nothing.
use Rattle.std.proofs.Common.{◌≡◌, ℕ, ◌<◌, ◌≤◌, Bool, true, false, cond, ltb, List, [], length, take, drop, Some, None, sym, ap, ◌∙◌, append-nil, arith}
use Rattle.std.proofs.lemmas.Bool.{and_parts, cond-true, cond-false, le-ltb, lt-ltb}
use Rattle.refusals.specs.declared.Refusal.TheVariants.{ListShort, StripShort}
use Rattle.graphs.specs.Answer.{Ordered, Cycled, search_refusal}
use Rattle.orders.specs.Orders.{among, first_where, orders}
use Rattle.graphs.specs.Edges.{follows}
use Rattle.graphs.specs.Rows.{free, mark, waits, Stuck, Marked, Placing, Walked}
use Rattle.orders.proofs.Among.{among_none}
use Rattle.graphs.proofs.First.{stuck_none}
use Rattle.graphs.proofs.Walks.{ring_long, ring_marked, ring_cycle}

module _ (has : ℕ → Bool) (edge : ℕ → ℕ → Bool) (list list' : List ℕ) (s : List ℕ) where
  pub ordered : (placed : ℕ) → Placing has edge s placed → ((m : ℕ) → 1 ≤ m → m ≤ 64 → waits has s m ≡ false) → ((row : List ℕ) → length row ≡ placed → Marked 0 row s → take placed list' ≡ row) → drop placed list' ≡ drop placed list → Ordered has edge list list' placed
  ordered placed now none written rest =
      let empty : among (waits has s) ≡ [] = among_none (waits has s) none in
      let last : first_where (follows edge) (orders (among (waits has s))) ≡ Some [] = ap (λ (us : List ℕ). first_where (follows edge) (orders us)) empty in
      let len : length (among (waits has s)) ≡ 0 = ap length empty in
      record {
        all = omega (arith, now.count, len);
        first = now.goes_on [] last ∙ ap (λ (o : List ℕ). Some o) (append-nil now.row ∙ sym (written now.row now.long now.marked));
        rest = rest;
      }

  pub cycled : (s' : List ℕ) (from base size : ℕ) → Stuck (waits has s) edge → 1 ≤ from → from ≤ 64 → waits has s from ≡ true → Walked has edge s' base size → size ≤ length list → ((row : List ℕ) → length row ≡ size → Marked base row s' → take size list' ≡ row) → drop size list' ≡ drop size list → Cycled has edge list list' size
  cycled s' from base size stuck low high waiting over fits written rest =
      let cells : take size list' ≡ take size over.row = written (take size over.row) (ring_long has edge s' base size over) (ring_marked has edge s' base size over) in
      record {
        none = stuck_none edge has (waits has s) stuck from low high waiting (λ m t. (and_parts (has m) (free (mark s m)) t).0);
        fits = fits;
        cycle = rw cells (ring_cycle has edge s' base size over);
        rest = rest;
      }

-- a strip that is long enough, with a list that is short
pub list_refused : (has : ℕ → Bool) (cells bytes : ℕ) → 64 ≤ bytes → cells < length (among has) → search_refusal has cells bytes ≡ Some ListShort
list_refused has cells bytes strip list =
    cond-false (ltb bytes 64) (Some StripShort) (cond (ltb cells (length (among has))) (Some ListShort) None) (le-ltb bytes 64 strip)
    ∙ cond-true (ltb cells (length (among has))) (Some ListShort) None (lt-ltb cells (length (among has)) list)

-- a strip and a list that are long enough
pub not_refused : (has : ℕ → Bool) (cells bytes : ℕ) → 64 ≤ bytes → length (among has) ≤ cells → search_refusal has cells bytes ≡ None
not_refused has cells bytes strip list =
    cond-false (ltb bytes 64) (Some StripShort) (cond (ltb cells (length (among has))) (Some ListShort) None) (le-ltb bytes 64 strip)
    ∙ cond-false (ltb cells (length (among has))) (Some ListShort) None (le-ltb cells (length (among has)) list)
