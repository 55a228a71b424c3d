-- A cycle of conflicts is no longer than the row of the committed cues.
use Rattle.std.proofs.Common.{◌≡◌, ℕ, suc, ◌<◌, ◌≤◌, true, List, [], ◌∷◌, length, get_or, sym, arith}
use Rattle.orders.specs.Orders.{without}
use Rattle.orders.specs.Least.{Stands}
use Rattle.orders.proofs.Among.{mem_among}
use Rattle.orders.proofs.First.{mem_without, without_lt}
use Rattle.history.specs.Entries.{committed}
use Rattle.history.specs.Order.{committed_cues}
use Rattle.history.proofs.Committed.{cue_low, cue_high, committed_cue}
use Rattle.equivalence.specs.Laws.{CycleFits}

-- distinct numbers of a list are no more than all of it
distinct_within : (c us : List ℕ) → ((i : ℕ) → i < length c → Stands (get_or c i 0) us) → ((i j : ℕ) → i < j → j < length c → get_or c i 0 ≡ get_or c j 0 → ⊥) → length c ≤ length us
distinct_within [] us within distinct = omega arith
distinct_within (x ∷ c) us within distinct =
    let short : length (without x us) < length us = without_lt x us (within 0 (omega arith)) in
    let ih : length c ≤ length (without x us) =
    distinct_within c (without x us)
    (λ i h. mem_without x (get_or c i 0) us (λ e. distinct 0 (suc i) (omega arith) (omega (arith, h)) (sym e)) (within (suc i) (omega (arith, h))))
    (λ i j l h. distinct (suc i) (suc j) (omega (arith, l)) (omega (arith, h))) in
    omega (arith, short, ih)

pub cycle_fits : (K : Type 0) → CycleFits K
cycle_fits K alike es c cycle =
    distinct_within c (committed_cues es)
    (λ i h.
    let n = get_or c i 0 in
    let yes : committed es n ≡ true = cycle.members i h in
    let cue = committed_cue es n yes in
    mem_among (committed es) n (cue_low n cue) (cue_high n cue) yes)
    cycle.distinct
