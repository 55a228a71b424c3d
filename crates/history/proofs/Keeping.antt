-- What the tests of conflicts say of places.
use Rattle.std.proofs.Common.{◌≡◌, ℕ, zero, suc, Bool, true, not, ◌&&◌, ◌||◌, eqb, List, sym, refl, ap, ◌∙◌, inl, inr, arith}
use Rattle.std.proofs.lemmas.Bool.{and_from, and_parts, both_ways, cases_Bool, eq-eqb, eqb-true, not-true, not_from_false, or_cases, or_left, or_right}
use Rattle.lists.proofs.Places.{every_pair_at, at_every_pair, some_pair_at, at_some_pair}
use Rattle.orders.specs.Orders.{precedes}
use Rattle.orders.proofs.Precedence.{precedes_comes, comes_precedes}
use Rattle.history.specs.declared.Entry.{Entry}
use Rattle.history.specs.Conflicts.{conflict}
use Rattle.history.specs.Entries.{committed}
use Rattle.history.specs.Order.{binds, keeps, joins, arrow, PutsBefore, MustPrecede, KeepsConflicts, KeepsIsKeepsConflicts}

module _ {K : Type 0} (alike : K → K → Bool) (es : List (Entry K)) where
  joins_of : (i j : ℕ) (x y : Entry K) → x.cue ≡ i → y.cue ≡ j → conflict alike x y ≡ true → joins alike i j x y ≡ true
  joins_of i j x y ex ey clash =
      and_from (eqb x.cue i) (eqb y.cue j && conflict alike x y) (eq-eqb x.cue i ex)
      (and_from (eqb y.cue j) (conflict alike x y) (eq-eqb y.cue j ey) clash)

  pub arrow_must : (i j : ℕ) → arrow alike es i j ≡ true → MustPrecede alike es i j
  arrow_must i j h =
      let r = some_pair_at (joins alike i j) es h in
      let x = r.2 in
      let y = r.3 in
      let s = and_parts (eqb x.cue i) (eqb y.cue j && conflict alike x y) r.7 in
      let t = and_parts (eqb y.cue j) (conflict alike x y) s.1 in
      record {
        p = suc r.0;
        q = suc r.1;
        puts =
            record {
              earlier = x;
              later = y;
              first = r.5;
              second = r.6;
              before = omega (arith, r.4);
              from = eqb-true x.cue i s.0;
              to = eqb-true y.cue j t.0;
              clash = t.1;
            };
      }

  -- places are not 0
  puts_arrow : (i j p q : ℕ) → PutsBefore alike es i j p q → arrow alike es i j ≡ true
  puts_arrow i j zero q h = let z = h.first in cc
  puts_arrow i j (suc a) zero h = let z = h.second in cc
  puts_arrow i j (suc a) (suc b) h =
      at_some_pair (joins alike i j) es a b h.earlier h.later (omega (arith, h.before)) h.first h.second (joins_of i j h.earlier h.later h.from h.to h.clash)

  pub must_arrow : (i j : ℕ) → MustPrecede alike es i j → arrow alike es i j ≡ true
  must_arrow i j m = puts_arrow i j m.p m.q m.puts

  module _ (o : List ℕ) where
    -- an order that passes has the cues of two that bind in their order
    bound_before : (x y : Entry K) → committed es x.cue ≡ true → committed es y.cue ≡ true → conflict alike x y ≡ true → (not (binds alike es x y) || precedes x.cue y.cue o) ≡ true → precedes x.cue y.cue o ≡ true
    bound_before x y cx cy clash h =
        let bound = and_from (committed es x.cue) (committed es y.cue && conflict alike x y) cx (and_from (committed es y.cue) (conflict alike x y) cy clash) in
        elim (or_cases (not (binds alike es x y)) (precedes x.cue y.cue o) h) [
          | inl n ↦ absurd (both_ways (binds alike es x y) (not-true (binds alike es x y) n) bound)
          | inr t ↦ t
        ]

    keeps_to : keeps alike es o ≡ true → KeepsConflicts alike es o
    keeps_to h i j zero q ci cj puts = let z = puts.first in cc
    keeps_to h i j (suc a) zero ci cj puts = let z = puts.second in cc
    keeps_to h i j (suc a) (suc b) ci cj puts =
        let x = puts.earlier in
        let y = puts.later in
        let test = λ (v w : Entry K). not (binds alike es v w) || precedes v.cue w.cue o in
        let passes = every_pair_at test es a b x y h (omega (arith, puts.before)) puts.first puts.second in
        let before = bound_before x y (ap (committed es) puts.from ∙ ci) (ap (committed es) puts.to ∙ cj) puts.clash passes in
        precedes_comes i j o (sym (λ k. precedes (puts.from k) (puts.to k) o) ∙ before)

    keeps_from : KeepsConflicts alike es o → keeps alike es o ≡ true
    keeps_from f =
        at_every_pair (λ x y. not (binds alike es x y) || precedes x.cue y.cue o) es
        (λ a b x y l ga gb. elim (cases_Bool (binds alike es x y)) [
          | inl t ↦
              let s = and_parts (committed es x.cue) (committed es y.cue && conflict alike x y) t in
              let u = and_parts (committed es y.cue) (conflict alike x y) s.1 in
              or_right (not (binds alike es x y)) (precedes x.cue y.cue o)
              (comes_precedes x.cue y.cue o
              (f x.cue y.cue (suc a) (suc b) s.0 u.0
              (record { earlier = x; later = y; first = ga; second = gb; before = omega arith; from = refl; to = refl; clash = u.1 })))
          | inr n ↦ or_left (not (binds alike es x y)) (precedes x.cue y.cue o) (not_from_false (binds alike es x y) n)
        ])

pub keeps_is : (K : Type 0) → KeepsIsKeepsConflicts K
keeps_is K alike es o = (keeps_to alike es o, keeps_from alike es o)
