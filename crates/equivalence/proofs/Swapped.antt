-- A conflict is a change of places that can be told.
use Rattle.std.proofs.Common.{◌≡◌, ℕ, Bool, true, false, cond, not, eqb, List, [], ◌∷◌, Some, None, sym, refl, ap, ◌∙◌, subst, inl, inr, arith}
use Rattle.std.proofs.lemmas.Bool.{and_from, and_parts, both_ways, cases_Bool, eq-eqb, false≢true, not-true, not_from_false, ne_eqb}
use Rattle.lists.specs.Lists.{or_else}
use Rattle.orders.specs.Least.{Stands}
use Rattle.history.specs.declared.Act.{Act}
use Rattle.history.specs.declared.Act.TheVariants.{Read, Write, Commit, Abort}
use Rattle.history.specs.declared.Entry.{Entry}
use Rattle.history.specs.Conflicts.{writes, meets, conflict}
use Rattle.history.specs.Views.{place_of, source_at, SameView}
use Rattle.equivalence.specs.Laws.{Sameness, SwapShows, ConflictIsSeen}
use Rattle.equivalence.proofs.Kept.{writes_meet, write_meets, read_meets}

module _ {K : Type 0} where
  -- the place of p, if it is taken
  abbrev alone : Bool → ℕ × Entry K → ℕ
  alone b p = place_of (cond b (Some p) None)

  -- that of q, if it is taken, or else of p
  abbrev either : Bool → Bool → ℕ × Entry K → ℕ × Entry K → ℕ
  either b c p q = place_of (or_else (or_else None (cond c (Some q) None)) (cond b (Some p) None))

  -- where one of the two is not taken, it does not matter which is asked first
  turned : (b c : Bool) (p q : ℕ × Entry K) → (b ≡ true → c ≡ true → ⊥) → either b c p q ≡ either c b q p
  turned true true p q h = absurd (h refl refl)
  turned true false p q h = refl
  turned false true p q h = refl
  turned false false p q h = refl

module _ {K : Type 0} (alike : K → K → Bool) (same : Sameness alike) (x y : Entry K) where
  abbrev fore : List (ℕ × Entry K)
  fore = (1, x) ∷ (2, y) ∷ []

  abbrev back : List (ℕ × Entry K)
  back = (2, y) ∷ (1, x) ∷ []

  seen : (a b : Act K) → x.act ≡ a → y.act ≡ b → meets alike a b ≡ true → SwapShows alike x y
  seen (Read k) b ea eb m v =
      let w : writes (alike k) y.act ≡ true = ap (writes (alike k)) eb ∙ m in
      let z : 0 ≡ 2 = v.sources (1, x) k (inl refl) ea ∙ ap (λ (t : Bool). alone t (2, y)) w in
      omega (arith, z)
  seen (Write k) (Read l) ea eb m v =
      let w : writes (alike l) x.act ≡ true = ap (writes (alike l)) ea ∙ same.symmetric k l m in
      let z : 1 ≡ 0 = sym (ap (λ (t : Bool). alone t (1, x)) w) ∙ v.sources (2, y) l (inr (inl refl)) eb in
      omega (arith, z)
  seen (Write k) (Write l) ea eb m v =
      let u : writes (alike k) x.act ≡ true = ap (writes (alike k)) ea ∙ same.reflexive k in
      let w : writes (alike k) y.act ≡ true = ap (writes (alike k)) eb ∙ m in
      let z : 2 ≡ 1 =
      sym (λ i. either (u i) (w i) (1, x) (2, y)) ∙ v.lasts k ∙ (λ i. either (w i) (u i) (2, y) (1, x)) in
      omega (arith, z)
  seen (Write k) Commit ea eb m v = false≢true m
  seen (Write k) Abort ea eb m v = false≢true m
  seen Commit b ea eb m v = false≢true m
  seen Abort b ea eb m v = false≢true m

  module _ (none : meets alike x.act y.act ≡ true → ⊥) where
    no_write : (k : K) (a : Act K) → (writes (alike k) a ≡ true → ⊥) → writes (alike k) a ≡ false
    no_write k a h = elim (cases_Bool (writes (alike k) a)) [ inl t ↦ absurd (h t) | inr f ↦ f ]

    sources_stay : (p : ℕ × Entry K) (k : K) → Stands p fore → p.1.act ≡ Read k → source_at alike k p.0 fore ≡ source_at alike k p.0 back
    sources_stay p k (inl q) e =
        subst (λ (r : ℕ × Entry K). r.1.act ≡ Read k → source_at alike k r.0 fore ≡ source_at alike k r.0 back) q
        (λ d. sym (ap (λ (t : Bool). alone t (2, y)) (no_write k y.act (λ w. none (read_meets alike same k x.act y.act d w))))) e
    sources_stay p k (inr (inl q)) e =
        subst (λ (r : ℕ × Entry K). r.1.act ≡ Read k → source_at alike k r.0 fore ≡ source_at alike k r.0 back) q
        (λ d. ap (λ (t : Bool). alone t (1, x)) (no_write k x.act (λ w. none (write_meets alike same k x.act y.act w d)))) e
    sources_stay p k (inr (inr q)) e = absurd q

    unseen : SameView alike fore back
    unseen = record {
      sources = sources_stay;
      lasts = λ k. turned (writes (alike k) x.act) (writes (alike k) y.act) (1, x) (2, y) (λ u w. none (writes_meet alike same k x.act y.act u w));
    }

  conflict_shows : conflict alike x y ≡ true → (x.cue ≡ y.cue → ⊥) × SwapShows alike x y
  conflict_shows h =
      let p = and_parts (not (eqb x.cue y.cue)) (meets alike x.act y.act) h in
      (λ e. both_ways (eqb x.cue y.cue) (not-true (eqb x.cue y.cue) p.0) (eq-eqb x.cue y.cue e), seen x.act y.act refl refl p.1)

  shows_conflict : (x.cue ≡ y.cue → ⊥) × SwapShows alike x y → conflict alike x y ≡ true
  shows_conflict h =
      elim (cases_Bool (meets alike x.act y.act)) [
        | inl m ↦ and_from (not (eqb x.cue y.cue)) (meets alike x.act y.act) (not_from_false (eqb x.cue y.cue) (ne_eqb x.cue y.cue h.0)) m
        | inr f ↦ absurd (h.1 (unseen (both_ways (meets alike x.act y.act) f)))
      ]

pub conflict_is_seen_lem : (K : Type 0) → ConflictIsSeen K
conflict_is_seen_lem K alike same x y = (conflict_shows alike same x y, shows_conflict alike same x y)
