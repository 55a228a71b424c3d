-- No order goes round: it has not each of a cycle before the next, and the last before the first.
use Rattle.std.proofs.Common.{◌≡◌, ℕ, zero, suc, ◌+◌, ◌-◌, ◌<◌, true, List, length, get_or, refl, ap, ◌∙◌, arith}
use Rattle.orders.specs.Orders.{precedes}
use Rattle.orders.specs.Least.{Distinct}
use Rattle.orders.proofs.Precedence.{precedes_on, precedes_never}

module _ (c o : List ℕ) (d : Distinct o) (steps : (i : ℕ) → i + 1 < length c → precedes (get_or c i 0) (get_or c (i + 1) 0) o ≡ true) where
  step : (i : ℕ) → suc i < length c → precedes (get_or c i 0) (get_or c (suc i) 0) o ≡ true
  step i h =
      let next : suc i ≡ i + 1 = omega arith in
      ap (λ (n : ℕ). precedes (get_or c i 0) (get_or c n 0) o) next ∙ steps i (omega (arith, h))

  run : (i : ℕ) → suc i < length c → precedes (get_or c 0 0) (get_or c (suc i) 0) o ≡ true
  run zero h = step 0 h
  run (suc i) h = precedes_on (get_or c 0 0) (get_or c (suc i) 0) (get_or c (suc (suc i)) 0) o d (run i (omega (arith, h))) (step (suc i) h)

  -- where the last comes before the first, so does the first before itself
  round : precedes (get_or c (length c - 1) 0) (get_or c 0 0) o ≡ true → (n : ℕ) → n ≡ length c - 1 → n < length c → precedes (get_or c 0 0) (get_or c 0 0) o ≡ true
  round closes zero e h = ap (λ (n : ℕ). precedes (get_or c n 0) (get_or c 0 0) o) e ∙ closes
  round closes (suc n) e h =
      precedes_on (get_or c 0 0) (get_or c (suc n) 0) (get_or c 0 0) o d (run n h)
      (ap (λ (m : ℕ). precedes (get_or c m 0) (get_or c 0 0) o) e ∙ closes)

  pub never_round : 0 < length c → precedes (get_or c (length c - 1) 0) (get_or c 0 0) o ≡ true → ⊥
  never_round some closes =
      precedes_never (get_or c 0 0) o d (round closes (length c - 1) refl (omega (arith, some)))
