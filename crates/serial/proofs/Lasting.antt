-- A cycle lasts.
use Rattle.std.proofs.Common.{◌≡◌, ℕ, ◌+◌, ◌-◌, ◌<◌, ◌≤◌, Bool, true, List, ◌++◌, length, get_or, Some, None, Option, refl, arith}
use Rattle.std.proofs.lemmas.Bool.{and_from, and_parts}
use Rattle.lists.specs.Lists.{some}
use Rattle.orders.specs.Orders.{precedes}
use Rattle.lists.proofs.Some.{some_front}
use Rattle.history.specs.declared.Entry.{Entry}
use Rattle.history.specs.Entries.{is_cue, is_commit, by, committed}
use Rattle.orders.proofs.Leasts.{first_is_least}
use Rattle.history.specs.Order.{committed_cues, keeps, conflict_order, joins, MustPrecede, ConflictCycle, CycleLasts}
use Rattle.history.proofs.Keeping.{must_arrow}
use Rattle.serial.proofs.Kept.{keeps_ahead}
use Rattle.lists.proofs.Pairs.{pair_front}
use Rattle.orders.proofs.Precedence.{rearranged_distinct}
use Rattle.graphs.proofs.Rounds.{never_round}

committed_more : {K : Type 0} (es more : List (Entry K)) (n : ℕ) → committed es n ≡ true → committed (es ++ more) n ≡ true
committed_more es more n h =
    let p = and_parts (is_cue n) (some (by n is_commit) es) h in
    and_from (is_cue n) (some (by n is_commit) (es ++ more)) p.0 (some_front (by n is_commit) es more p.1)

module _ {K : Type 0} (alike : K → K → Bool) (es more : List (Entry K)) (c : List ℕ) (cycle : ConflictCycle alike es c) where
  no_order : (o : Option (List ℕ)) → conflict_order alike (es ++ more) ≡ o → o ≡ None
  no_order None e = refl
  no_order (Some o) e =
      let l = first_is_least (committed (es ++ more)) (keeps alike (es ++ more)) o e in
      let two : 2 ≤ length c = cycle.two in
      let member : (i : ℕ) → i < length c → committed (es ++ more) (get_or c i 0) ≡ true = λ i h. committed_more es more (get_or c i 0) (cycle.members i h) in
      let ahead : (i j : ℕ) → i < length c → j < length c → MustPrecede alike es (get_or c i 0) (get_or c j 0) → precedes (get_or c i 0) (get_or c j 0) o ≡ true =
      λ i j hi hj a.
      keeps_ahead alike (es ++ more) o l.passes (get_or c i 0) (get_or c j 0) (member i hi) (member j hj)
      (pair_front (joins alike (get_or c i 0) (get_or c j 0)) es more (must_arrow alike es (get_or c i 0) (get_or c j 0) a)) in
      absurd
      (never_round c o (rearranged_distinct (committed_cues (es ++ more)) o l.order)
      (λ i h. ahead i (i + 1) (omega arith) h (cycle.steps i h))
      (omega arith)
      (ahead (length c - 1) 0 (omega arith) (omega arith) cycle.closes))

pub cycle_lasts_lem : (K : Type 0) → CycleLasts K
cycle_lasts_lem K alike es more c cycle = no_order alike es more c cycle (conflict_order alike (es ++ more)) refl
