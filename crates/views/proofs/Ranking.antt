-- The ranks of the members, and what is told by them. Assumes nothing.
use Rattle.std.proofs.Common.{◌≡◌, ℕ, zero, suc, ◌+◌, ◌*◌, ◌<◌, ◌≤◌, Bool, true, false, ◌||◌, eqb, ltb, List, [], ◌∷◌, length, get_or, set, replicate, Some, None, Option, sym, refl, ap, ◌∙◌, inl, inr, arith}
use mathlib.Core.Bool.{or-false}
use Rattle.std.specs.List.{position_or_len}
use Rattle.std.proofs.lemmas.List.{get_or-set_same, get_or-set_other, length-take}
use Rattle.std.proofs.lemmas.List.Quantifiers.{position-Some}
use Rattle.std.proofs.lemmas.Bool.{both_ways, cases_Bool, eqb-true, lt-ltb, cond-true, or_right}
use Rattle.lists.specs.Lists.{has}
use Rattle.orders.specs.Orders.{among}
use Rattle.orders.proofs.Among.{mem_among}
use Rattle.orders.proofs.Precedence.{stands_has}
use Rattle.history.specs.Marked.{marked}
use Rattle.history.proofs.Committed.{cue_low, cue_high}
use Rattle.history.proofs.Marks.{marked_cue}
use Rattle.views.specs.declared.members.Members.{Members}
use Rattle.views.specs.Ranks.{rank_in}
use Rattle.views.specs.Tables.{digit, pair_in, triple_in, told}

pub members_few : (m : Members) → length (among (marked m.cues)) ≤ 8
members_few m = omega (arith, sym (ap length m.rising), length-take m.count m.numbers, m.few)

none_some : (o : Option ℕ) (n : ℕ) → o ≡ None → o ≡ Some n → ⊥
none_some None n h e = let z : ◌≡◌ {A = ℕ} 0 1 = cc in absurd (omega arith)
none_some (Some m) n h e = let z : ◌≡◌ {A = ℕ} 0 1 = cc in absurd (omega arith)

has_place : (n : ℕ) (us : List ℕ) → has n us ≡ true → position_or_len (λ m. eqb m n) us < length us
has_place n [] h = absurd (both_ways false refl h)
has_place n (u ∷ us) h =
    elim (cases_Bool (eqb u n)) [
      | inl t ↦ rw t (omega arith)
      | inr f ↦ let ih = has_place n us (sym (ap (λ (b : Bool). b || has n us) f) ∙ h) in rw f (omega (arith, ih))
    ]

digits : (o p : Option ℕ) (i : ℕ) → digit o p ≡ Some i → (n : ℕ) × (r : ℕ) × (o ≡ Some n) × (p ≡ Some r) × (n * 8 + r ≡ i)
digits None p i h = absurd (none_some None i refl h)
digits (Some n) None i h = absurd (none_some None i refl h)
digits (Some n) (Some r) i h = (n, r, refl, refl, cc)

digit_some : (o p : Option ℕ) → (o ≡ None → ⊥) → (p ≡ None → ⊥) → digit o p ≡ None → ⊥
digit_some None p ho hp h = ho refl
digit_some (Some n) None ho hp h = hp refl
digit_some (Some n) (Some r) ho hp h = none_some (Some (n * 8 + r)) (n * 8 + r) h refl

module _ (cues : List Bool) where
  pub rank_low : (n r : ℕ) → rank_in cues n ≡ Some r → r < length (among (marked cues))
  rank_low n r h = (position-Some (λ m. eqb m n) (among (marked cues)) r 0 h).0

  rank_at : (n r : ℕ) → rank_in cues n ≡ Some r → get_or (among (marked cues)) r 0 ≡ n
  rank_at n r h = eqb-true (get_or (among (marked cues)) r 0) n (position-Some (λ m. eqb m n) (among (marked cues)) r 0 h).1

  -- members have ranks
  rank_some : (n : ℕ) → marked cues n ≡ true → rank_in cues n ≡ None → ⊥
  rank_some n m h =
      let cue = marked_cue cues n m in
      let us = among (marked cues) in
      let at = position_or_len (λ k. eqb k n) us in
      let place : at < length us = has_place n us (stands_has n us (mem_among (marked cues) n (cue_low n cue) (cue_high n cue) m)) in
      none_some (rank_in cues n) at h (cond-true (ltb at (length us)) (Some at) None (lt-ltb at (length us) place))

  pub pair_some : (a b : ℕ) → marked cues a ≡ true → marked cues b ≡ true → pair_in cues a b ≡ None → ⊥
  pair_some a b ma mb = digit_some (rank_in cues a) (rank_in cues b) (rank_some a ma) (rank_some b mb)

  pub triple_some : (j r n : ℕ) → marked cues j ≡ true → marked cues r ≡ true → marked cues n ≡ true → triple_in cues j r n ≡ None → ⊥
  triple_some j r n mj mr mn = digit_some (pair_in cues j r) (rank_in cues n) (pair_some j r mj mr) (rank_some n mn)

  -- and different ones have different ranks
  rank_same : (a b r : ℕ) → rank_in cues a ≡ Some r → rank_in cues b ≡ Some r → a ≡ b
  rank_same a b r ha hb = sym (rank_at a r ha) ∙ rank_at b r hb

  module _ (few : length (among (marked cues)) ≤ 8) where
    pub pair_same : (x y a b i : ℕ) → pair_in cues x y ≡ Some i → pair_in cues a b ≡ Some i → (x ≡ a) × (y ≡ b)
    pair_same x y a b i hx ha =
        let p = digits (rank_in cues x) (rank_in cues y) i hx in
        let q = digits (rank_in cues a) (rank_in cues b) i ha in
        let lp = rank_low y p.1 p.3 in
        let lq = rank_low b q.1 q.3 in
        let first : p.0 ≡ q.0 = omega (arith, few, lp, lq, p.4, q.4) in
        let second : p.1 ≡ q.1 = omega (arith, few, lp, lq, p.4, q.4) in
        (rank_same x a q.0 (p.2 ∙ ap (λ (n : ℕ). Some n) first) q.2, rank_same y b q.1 (p.3 ∙ ap (λ (n : ℕ). Some n) second) q.3)

    pub triple_same : (x y z j r n i : ℕ) → triple_in cues x y z ≡ Some i → triple_in cues j r n ≡ Some i → (x ≡ j) × (y ≡ r) × (z ≡ n)
    triple_same x y z j r n i hx hj =
        let p = digits (pair_in cues x y) (rank_in cues z) i hx in
        let q = digits (pair_in cues j r) (rank_in cues n) i hj in
        let lp = rank_low z p.1 p.3 in
        let lq = rank_low n q.1 q.3 in
        let first : p.0 ≡ q.0 = omega (arith, few, lp, lq, p.4, q.4) in
        let second : p.1 ≡ q.1 = omega (arith, few, lp, lq, p.4, q.4) in
        let pair = pair_same x y j r q.0 (p.2 ∙ ap (λ (m : ℕ). Some m) first) q.2 in
        (pair.0, pair.1, rank_same z n q.1 (p.3 ∙ ap (λ (m : ℕ). Some m) second) q.3)

some_eq : (m n : ℕ) → ◌≡◌ {A = Option ℕ} (Some m) (Some n) → m ≡ n
some_eq m n h = cc

-- one more cell is set: what it says here is true exactly of that cell
pub told_set : (cells : List Bool) (at : ℕ) (o : Option ℕ) (here : Bool) → at < length cells → (here ≡ true → o ≡ Some at) → (o ≡ Some at → here ≡ true) → told (set cells at true) o ≡ (told cells o || here)
told_set cells at None here within same back =
    elim (cases_Bool here) [ inl t ↦ absurd (none_some None at refl (same t)) | inr f ↦ sym f ]
told_set cells at (Some cell) here within same back =
    elim (cases_Bool here) [
      | inl t ↦
          ap (λ (n : ℕ). get_or (set cells at true) n false) (some_eq cell at (same t))
          ∙ get_or-set_same cells at true false within
          ∙ sym (or_right (get_or cells cell false) here t)
      | inr f ↦
          get_or-set_other cells at cell true false (λ z. both_ways here f (back (ap (λ (n : ℕ). Some n) z)))
          ∙ sym (or-false (get_or cells cell false))
          ∙ ap (λ (x : Bool). get_or cells cell false || x) (sym f)
    ]

pub told_none : (long : ℕ) (o : Option ℕ) → told (replicate long false) o ≡ false
told_none long None = refl
told_none long (Some at) = get_or-replicate_same long at
  where
    get_or-replicate_same : (n k : ℕ) → get_or (replicate n false) k false ≡ false
    get_or-replicate_same zero k = refl
    get_or-replicate_same (suc n) zero = refl
    get_or-replicate_same (suc n) (suc k) = get_or-replicate_same n k
