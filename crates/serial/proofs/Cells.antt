-- What stands in the first cells of a list after an answer to order.
use Rattle.std.proofs.Common.{◌≡◌, ℕ, ◌≤◌, List, ◌++◌, length, take, drop, Some, None, Ok, Err, Option, sym, refl, ap, ◌∙◌, append_assoc, arith}
use Rattle.std.proofs.lemmas.List.{length-append, take_at}
use Rattle.refusals.specs.declared.Refusal.{Refusal}
use Rattle.graphs.specs.declared.Found.TheVariants.{Order, Cycle}
use Rattle.serial.specs.OrderAnswer.{answer_by, list_by}

-- n numbers at the front of a list, whatever follows it
module _ (rest list : List ℕ) where
  pub record Front (n : ℕ) (new xs : List ℕ) : Type 0 where
    pub cells : take n new ≡ xs
    pub more : take n (new ++ rest) ≡ xs
    pub few : n ≤ length new

  pub front : (n : ℕ) (new xs : List ℕ) → length xs ≡ n → new ≡ xs ++ drop (length xs) list → Front n new xs
  front n new xs long is =
      let after = drop (length xs) list in
      record {
        cells = ap (take n) is ∙ take_at xs after n long;
        more = ap (λ (ys : List ℕ). take n (ys ++ rest)) is ∙ ap (take n) (append_assoc xs after rest) ∙ take_at xs (after ++ rest) n long;
        few = omega (arith, ap length is, length-append xs after, long);
      }

  module _ (c : List ℕ) where
    -- an order that is answered
    pub record OrderCells (n : ℕ) (new : List ℕ) (r : Option Refusal) (o : Option (List ℕ)) : Type 0 where
      pub taken : r ≡ None
      pub cells : o ≡ Some (take n new)
      pub more : o ≡ Some (take n (new ++ rest))
      pub few : n ≤ length new

    pub order_cells : (n : ℕ) (new : List ℕ) (r : Option Refusal) (o : Option (List ℕ)) → Ok (Order n) ≡ answer_by r o c → new ≡ list_by r o c list → OrderCells n new r o
    order_cells n new (Some e) o a l = cc
    order_cells n new None None a l = cc
    order_cells n new None (Some o) a l =
        let long : length o ≡ n = cc in
        let f = front n new o long l in
        record { taken = refl; cells = ap Some (sym f.cells); more = ap Some (sym f.more); few = f.few }

    -- a cycle that is answered
    pub record CycleCells (n : ℕ) (new : List ℕ) (r : Option Refusal) (o : Option (List ℕ)) : Type 0 where
      pub taken : r ≡ None
      pub none : o ≡ None
      pub same : take n new ≡ take n (new ++ rest)
      pub few : n ≤ length new

    pub cycle_cells : (n : ℕ) (new : List ℕ) (r : Option Refusal) (o : Option (List ℕ)) → Ok (Cycle n) ≡ answer_by r o c → new ≡ list_by r o c list → CycleCells n new r o
    cycle_cells n new (Some e) o a l = cc
    cycle_cells n new None (Some o) a l = cc
    cycle_cells n new None None a l =
        let long : length c ≡ n = cc in
        let f = front n new c long l in
        record { taken = refl; none = refl; same = f.cells ∙ sym f.more; few = f.few }

    pub order_refused : (e : Refusal) (r : Option Refusal) (o : Option (List ℕ)) → Err e ≡ answer_by r o c → r ≡ Some e
    order_refused e (Some f) o a = cc
    order_refused e None (Some o) a = cc
    order_refused e None None a = cc
