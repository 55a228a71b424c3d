-- The edges between committed cues and the entries ask the same of an order.
use Rattle.std.proofs.Common.{◌≡◌, ℕ, ◌+◌, ◌-◌, ◌<◌, ◌≤◌, Bool, true, not, ◌&&◌, ◌||◌, eqb, List, length, get_or, sym, refl, ap, ◌∙◌, inl, inr, arith}
use Rattle.std.proofs.lemmas.Bool.{and_from, and_parts, both_ways, cases_Bool, cases_lt, eq-eqb, eqb-true, not-true, not_from_false, or_cases, or_left, or_right}
use Rattle.lists.specs.Lists.{has}
use Rattle.history.specs.declared.Entry.{Entry}
use Rattle.history.specs.Conflicts.{conflict, meets}
use Rattle.history.specs.Entries.{committed}
use Rattle.orders.specs.Orders.{among, first_where, orders, precedes}
use Rattle.graphs.specs.Edges.{follows, IsCycle}
use Rattle.orders.specs.Least.{Rearranges}
use Rattle.orders.proofs.Among.{among_same}
use Rattle.history.specs.Order.{committed_cues, binds, keeps, conflict_order, joins, arrow, ConflictCycle}
use Rattle.history.proofs.Committed.{same_tests, has_committed}
use Rattle.history.proofs.Keeping.{arrow_must}
use Rattle.lists.proofs.Pairs.{pair_both, pair_one, pair_from_lem}
use Rattle.orders.proofs.Precedence.{rearranged_has, rearranged_distinct}
use Rattle.graphs.proofs.Following.{follows_ahead, ahead_follows}
use Rattle.orders.proofs.Same.{same_first}

module _ {K : Type 0} (alike : K → K → Bool) (es : List (Entry K)) where
  pub keeps_ahead : (o : List ℕ) → keeps alike es o ≡ true → (i j : ℕ) → committed es i ≡ true → committed es j ≡ true → arrow alike es i j ≡ true → precedes i j o ≡ true
  keeps_ahead o h i j ci cj a =
      let r = pair_both (λ x y. not (binds alike es x y) || precedes x.cue y.cue o) (joins alike i j) es h a in
      let x = r.0 in
      let y = r.1 in
      let p = and_parts (eqb x.cue i) (eqb y.cue j && conflict alike x y) r.3 in
      let q = and_parts (eqb y.cue j) (conflict alike x y) p.1 in
      let ex : x.cue ≡ i = eqb-true x.cue i p.0 in
      let ey : y.cue ≡ j = eqb-true y.cue j q.0 in
      let bound : binds alike es x y ≡ true =
      and_from (committed es x.cue) (committed es y.cue && conflict alike x y) (ap (committed es) ex ∙ ci)
      (and_from (committed es y.cue) (conflict alike x y) (ap (committed es) ey ∙ cj) q.1) in
      elim (or_cases (not (binds alike es x y)) (precedes x.cue y.cue o) r.2) [
        | inl n ↦ absurd (both_ways (binds alike es x y) (not-true (binds alike es x y) n) bound)
        | inr t ↦ sym (λ k. precedes (ex k) (ey k) o) ∙ t
      ]

  ahead_keeps : (o : List ℕ) → ((i j : ℕ) → committed es i ≡ true → committed es j ≡ true → arrow alike es i j ≡ true → precedes i j o ≡ true) → keeps alike es o ≡ true
  ahead_keeps o f =
      pair_from_lem (λ x y. not (binds alike es x y) || precedes x.cue y.cue o) es
      (λ x y within. elim (cases_Bool (binds alike es x y)) [
        | inl b ↦
            let p = and_parts (committed es x.cue) (committed es y.cue && conflict alike x y) b in
            let q = and_parts (committed es y.cue) (conflict alike x y) p.1 in
            or_right (not (binds alike es x y)) (precedes x.cue y.cue o)
            (f x.cue y.cue p.0 q.0
            (within (joins alike x.cue y.cue)
            (and_from (eqb x.cue x.cue) (eqb y.cue y.cue && conflict alike x y) (eq-eqb x.cue x.cue refl)
            (and_from (eqb y.cue y.cue) (conflict alike x y) (eq-eqb y.cue y.cue refl) q.1))))
        | inr n ↦ or_left (not (binds alike es x y)) (precedes x.cue y.cue o) (not_from_false (binds alike es x y) n)
      ])

  -- no cue conflicts with itself
  never_itself : (i : ℕ) → arrow alike es i i ≡ true → ⊥
  never_itself i h =
      let r = pair_one (joins alike i i) es h in
      let x = r.0 in
      let y = r.1 in
      let p = and_parts (eqb x.cue i) (eqb y.cue i && conflict alike x y) r.2 in
      let q = and_parts (eqb y.cue i) (conflict alike x y) p.1 in
      let n = and_parts (not (eqb x.cue y.cue)) (meets alike x.act y.act) q.1 in
      both_ways (eqb x.cue y.cue) (not-true (eqb x.cue y.cue) n.0)
      (eq-eqb x.cue y.cue (eqb-true x.cue i p.0 ∙ sym (eqb-true y.cue i q.0)))

  -- edges that are arrows wherever both cues are committed
  module _ (edge : ℕ → ℕ → Bool) (same : (i j : ℕ) → committed es i ≡ true → committed es j ≡ true → edge i j ≡ arrow alike es i j) where
    pub follows_keeps : (o : List ℕ) → Rearranges (committed_cues es) o → follows edge o ≡ keeps alike es o
    follows_keeps o re =
        let member : (m : ℕ) → has m o ≡ committed es m = λ m. rearranged_has (committed_cues es) o re m ∙ has_committed es m in
        same_tests (follows edge o) (keeps alike es o)
        (λ h. ahead_keeps o (λ i j ci cj a. follows_ahead edge o h i j (member i ∙ ci) (member j ∙ cj) (same i j ci cj ∙ a)))
        (λ h.
        ahead_follows edge o (rearranged_distinct (committed_cues es) o re)
        (λ i j hi hj t.
        let ci : committed es i ≡ true = sym (member i) ∙ hi in
        let cj : committed es j ≡ true = sym (member j) ∙ hj in
        keeps_ahead o h i j ci cj (sym (same i j ci cj) ∙ t)))

    pub first_order : (numbers : ℕ → Bool) → ((n : ℕ) → numbers n ≡ committed es n) → first_where (follows edge) (orders (among numbers)) ≡ conflict_order alike es
    first_order numbers is =
        ap (λ (us : List ℕ). first_where (follows edge) (orders us)) (among_same (committed es) numbers (λ m l h. is m))
        ∙ same_first (committed es) (follows edge) (keeps alike es) follows_keeps

    pub conflict_cycle : (numbers : ℕ → Bool) → ((n : ℕ) → numbers n ≡ committed es n) → (c : List ℕ) → IsCycle numbers edge c → ConflictCycle alike es c
    conflict_cycle numbers is c cycle =
        let some : 0 < length c = cycle.some in
        let members : (i : ℕ) → i < length c → committed es (get_or c i 0) ≡ true = λ i h. sym (is (get_or c i 0)) ∙ (cycle.members i h).2 in
        let closes : arrow alike es (get_or c (length c - 1) 0) (get_or c 0 0) ≡ true =
        sym (same (get_or c (length c - 1) 0) (get_or c 0 0) (members (length c - 1) (omega arith)) (members 0 some)) ∙ cycle.closes in
        let two : 2 ≤ length c =
        elim (cases_lt 1 (length c)) [
          | inl h ↦ omega arith
          | inr h ↦
              let last : length c - 1 ≡ 0 = omega arith in
              absurd (never_itself (get_or c 0 0) (ap (λ (n : ℕ). arrow alike es (get_or c n 0) (get_or c 0 0)) (sym last) ∙ closes))
        ] in
        record {
          two = two;
          members = members;
          distinct = cycle.distinct;
          steps = λ i h. arrow_must alike es (get_or c i 0) (get_or c (i + 1) 0) (sym (same (get_or c i 0) (get_or c (i + 1) 0) (members i (omega arith)) (members (i + 1) h)) ∙ cycle.steps i h);
          closes = arrow_must alike es (get_or c (length c - 1) 0) (get_or c 0 0) closes;
        }
