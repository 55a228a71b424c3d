-- The test for the same view is true exactly where the view is the same. Assumes nothing.
use Rattle.std.proofs.Common.{◌≡◌, ℕ, Bool, true, false, not, ◌&&◌, eqb, List, [], ◌∷◌, None, sym, refl, ap, ◌∙◌, subst, inl, inr, ⊎_elim}
use Rattle.std.proofs.lemmas.Bool.{false≢true, eqb-true, eq-eqb, cases_Bool, and_parts, and_from, not_from_false, or_cases}
use Rattle.lists.specs.Lists.{some, last_where}
use Rattle.orders.specs.Least.{Stands}
use Rattle.history.specs.declared.Act.{Act}
use Rattle.history.specs.declared.Act.TheVariants.{Read, Write, Commit, Abort}
use Rattle.history.specs.declared.Entry.{Entry}
use Rattle.history.specs.Conflicts.{reads, writes, touches}
use Rattle.history.specs.Views.{committed_list, serial_list, last_write, source_at, rereads, leaves, same_view, place_of, SameView}
use Rattle.equivalence.specs.Laws.{Sameness, ViewIsSame}
use Rattle.equivalence.proofs.Ordered.{same_bool, every_of, every_from, some_of}
use Rattle.equivalence.proofs.Serial.{serial_of}

not_not : (b : Bool) → not (not b) ≡ true → b ≡ true
not_not true h = refl
not_not false h = h

-- searches in a list
module _ {X : Type 0} where
  some_stands : (test : X → Bool) (xs : List X) → some test xs ≡ true → (x : X) × Stands x xs × (test x ≡ true)
  some_stands test [] h = absurd (false≢true h)
  some_stands test (y ∷ ys) h =
      ⊎_elim (λ t. (y, inl refl, t)) (λ k. let r = some_stands test ys k in (r.0, inr r.1, r.2)) (or_cases (test y) (some test ys) h)

  last_none : (test : X → Bool) (xs : List X) → ((x : X) → Stands x xs → test x ≡ false) → last_where test xs ≡ None
  last_none test [] h = refl
  last_none test (y ∷ ys) h =
      let ih : last_where test ys ≡ None = last_none test ys (λ x m. h x (inr m)) in
      let e : test y ≡ false = h y (inl refl) in
      rw (ih, e) refl

  last_agrees : (f g : X → Bool) → ((x : X) → f x ≡ g x) → (xs : List X) → last_where f xs ≡ last_where g xs
  last_agrees f g h [] = refl
  last_agrees f g h (y ∷ ys) =
      let ih : last_where f ys ≡ last_where g ys = last_agrees f g h ys in
      let e : f y ≡ g y = h y in
      rw (ih, e) refl

-- acts
module _ {K : Type 0} where
  reads_none : (f : K → Bool) (a : Act K) → ((k : K) → a ≡ Read k → f k ≡ false) → not (reads f a) ≡ true
  reads_none f (Read k) h = not_from_false (f k) (h k refl)
  reads_none f (Write k) h = refl
  reads_none f Commit h = refl
  reads_none f Abort h = refl

  touches_none : (f : K → Bool) (a : Act K) → ((k : K) → f k ≡ false) → not (touches f a) ≡ true
  touches_none f (Read k) h = not_from_false (f k) (h k)
  touches_none f (Write k) h = not_from_false (f k) (h k)
  touches_none f Commit h = refl
  touches_none f Abort h = refl

  writes_same : (f g : K → Bool) → ((k : K) → f k ≡ g k) → (a : Act K) → writes f a ≡ writes g a
  writes_same f g h (Read k) = refl
  writes_same f g h (Write k) = h k
  writes_same f g h Commit = refl
  writes_same f g h Abort = refl

  -- of an item that is written, what holds of each item that is touched holds
  written_touched : (f g : K → Bool) (a : Act K) → writes f a ≡ true → not (touches (λ k. not (g k)) a) ≡ true → (k : K) × (f k ≡ true) × (g k ≡ true)
  written_touched f g (Read k) w t = absurd (false≢true w)
  written_touched f g (Write k) w t = (k, w, not_not (g k) t)
  written_touched f g Commit w t = absurd (false≢true w)
  written_touched f g Abort w t = absurd (false≢true w)

module _ {K : Type 0} (alike : K → K → Bool) (ps ss : List (ℕ × Entry K)) where
  abbrev kept : ℕ × Entry K → Bool
  kept p = not (rereads alike ps ss p) && not (leaves alike ps ss p)

  -- the test says so where it is so
  passes_same : SameView alike ps ss → same_view alike ps ss ≡ true
  passes_same v =
      every_from kept ps
      (λ p i. and_from (not (rereads alike ps ss p)) (not (leaves alike ps ss p))
      (reads_none (λ k. not (eqb (source_at alike k p.0 ps) (source_at alike k p.0 ss))) p.1.act
      (λ k e. ap not (eq-eqb (source_at alike k p.0 ps) (source_at alike k p.0 ss) (v.sources p k i e))))
      (touches_none (λ k. not (eqb (last_write alike k ps) (last_write alike k ss))) p.1.act
      (λ k. ap not (eq-eqb (last_write alike k ps) (last_write alike k ss) (v.lasts k)))))

  -- and it is so where the test says so, if the second list has only entries of the first
  module _ (same : Sameness alike) (part : (x : ℕ × Entry K) → Stands x ss → Stands x ps) (h : same_view alike ps ss ≡ true) where
    abbrev wrote : K → ℕ × Entry K → Bool
    wrote k p = writes (alike k) p.1.act

    kept_at : (p : ℕ × Entry K) → Stands p ps → (not (rereads alike ps ss p) ≡ true) × (not (leaves alike ps ss p) ≡ true)
    kept_at p i = and_parts (not (rereads alike ps ss p)) (not (leaves alike ps ss p)) (every_of kept ps h p i)

    source_same : (p : ℕ × Entry K) (k : K) → Stands p ps → p.1.act ≡ Read k → source_at alike k p.0 ps ≡ source_at alike k p.0 ss
    source_same p k i e =
        eqb-true (source_at alike k p.0 ps) (source_at alike k p.0 ss)
        (not_not (eqb (source_at alike k p.0 ps) (source_at alike k p.0 ss))
        (subst (λ (a : Act K). not (reads (λ k. not (eqb (source_at alike k p.0 ps) (source_at alike k p.0 ss))) a) ≡ true) e (kept_at p i).0))

    -- items that are the same have the same writes
    last_alike : (k y : K) → alike k y ≡ true → (xs : List (ℕ × Entry K)) → last_write alike k xs ≡ last_write alike y xs
    last_alike k y e xs =
        ap place_of
        (last_agrees (wrote k) (wrote y)
        (λ x. writes_same (alike k) (alike y)
        (λ z. same_bool (alike k z) (alike y z) (same.transitive y k z (same.symmetric k y e)) (same.transitive k y z e)) x.1.act) xs)

    last_same : (k : K) → last_write alike k ps ≡ last_write alike k ss
    last_same k =
        ⊎_elim
        (λ t. let w = some_stands (wrote k) ps t in
        let y = written_touched (alike k) (λ z. eqb (last_write alike z ps) (last_write alike z ss)) w.0.1.act w.2 (kept_at w.0 w.1).1 in
        last_alike k y.0 y.1 ps ∙ eqb-true (last_write alike y.0 ps) (last_write alike y.0 ss) y.2 ∙ sym (last_alike k y.0 y.1 ss))
        (λ f. ap place_of (last_none (wrote k) ps (some_of (wrote k) ps f) ∙ sym (last_none (wrote k) ss (λ x i. some_of (wrote k) ps f x (part x i)))))
        (cases_Bool (some (wrote k) ps))

    same_passes : SameView alike ps ss
    same_passes = record { sources = source_same; lasts = last_same }

pub view_is_same_lem : (K : Type 0) → ViewIsSame K
view_is_same_lem K alike same es o order =
    let ps = committed_list es in
    let ss = serial_list ps o in
    (same_passes alike ps ss same (λ x i. (serial_of ps o x i).0), passes_same alike ps ss)
