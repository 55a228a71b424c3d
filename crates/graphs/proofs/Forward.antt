-- What it is to follow every edge, place by place. Assumes nothing.
use Rattle.std.proofs.Common.{◌≡◌, ℕ, zero, suc, ◌<◌, ◌≤◌, Bool, true, false, not, List, [], ◌∷◌, length, get_or, refl, arith}
use Rattle.std.proofs.lemmas.Bool.{and_parts, and_from, not-true, not_from_false, or_parts, or_from}
use Rattle.graphs.specs.Edges.{leads, follows, FollowsForward}

module _ (edge : ℕ → ℕ → Bool) where
  none_leads : (us : List ℕ) (x : ℕ) → leads edge us x ≡ false → (j : ℕ) → j < length us → edge (get_or us j 0) x ≡ false
  none_leads [] x h j l = absurd (omega arith)
  none_leads (u ∷ us) x h zero l = (or_parts (edge u x) (leads edge us x) h).0
  none_leads (u ∷ us) x h (suc j) l = none_leads us x (or_parts (edge u x) (leads edge us x) h).1 j (omega arith)

  leads_none : (us : List ℕ) (x : ℕ) → ((j : ℕ) → j < length us → edge (get_or us j 0) x ≡ false) → leads edge us x ≡ false
  leads_none [] x h = refl
  leads_none (u ∷ us) x h = or_from (edge u x) (leads edge us x) (h 0 (omega arith)) (leads_none us x (λ j l. h (suc j) (omega arith)))

  forward : (o : List ℕ) → follows edge o ≡ true → (i j : ℕ) → i ≤ j → j < length o → edge (get_or o j 0) (get_or o i 0) ≡ false
  forward [] h i j le l = absurd (omega arith)
  forward (x ∷ o) h zero j le l = none_leads (x ∷ o) x (not-true _ (and_parts _ _ h).0) j l
  forward (x ∷ o) h (suc i) zero le l = absurd (omega arith)
  forward (x ∷ o) h (suc i) (suc j) le l = forward o (and_parts _ _ h).1 i j (omega arith) (omega arith)

  backward : (o : List ℕ) → ((i j : ℕ) → i ≤ j → j < length o → edge (get_or o j 0) (get_or o i 0) ≡ false) → follows edge o ≡ true
  backward [] h = refl
  backward (x ∷ o) h =
      and_from (not (leads edge (x ∷ o) x)) (follows edge o)
      (not_from_false _ (leads_none (x ∷ o) x (λ j l. h 0 j (omega arith) l)))
      (backward o (λ i j le l. h (suc i) (suc j) (omega arith) (omega arith)))

pub follows_forward : FollowsForward
follows_forward edge o = (forward edge o, backward edge o)
