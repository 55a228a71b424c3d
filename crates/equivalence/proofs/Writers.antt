-- The writers of an item among the entries before another one, and among those after it. Assumes nothing.
use Rattle.std.proofs.Common.{◌≡◌, ℕ, suc, Bool, true, false, cond, ◌&&◌, eqb, List, [], ◌∷◌, Some, None, Option, sym, refl, ap, ◌∙◌, inl, inr}
use Rattle.std.specs.Option.{option_map}
use Rattle.std.proofs.lemmas.Bool.{false≢true, and_from, and_parts, eq-eqb, eqb-true, or_cases, or_left, or_right}
use Rattle.lists.specs.Lists.{some, last_where, or_else, placed}
use Rattle.lists.proofs.Some.{some_placed}
use Rattle.orders.specs.Least.{Stands}
use Rattle.history.specs.declared.Entry.{Entry}
use Rattle.history.specs.Conflicts.{writes, touches}
use Rattle.history.specs.Entries.{committed}
use Rattle.history.specs.Views.{counts, committed_list}
use Rattle.equivalence.specs.Constraints.{sets, writer, last_writer}
use Rattle.equivalence.proofs.Acts.{writes_touch}
use Rattle.equivalence.proofs.Ordered.{kept_of, kept_from, Last, last_is, last_same, last_turn, placed_rise}
use Rattle.equivalence.proofs.Serial.{Under, under_apart}
use Rattle.equivalence.proofs.Cuts.{Cut, before_stands, stands_before, after_stands, stands_after}

module _ {X : Type 0} where
  some_stands : (test : X → Bool) (xs : List X) → some test xs ≡ true → (x : X) × Stands x xs × (test x ≡ true)
  some_stands test [] h = absurd (false≢true h)
  some_stands test (y ∷ ys) h =
      elim (or_cases (test y) (some test ys) h) [ inl t ↦ (y, inl refl, t) | inr t ↦ let r = some_stands test ys t in (r.0, inr r.1, r.2) ]

  stands_some : (test : X → Bool) (xs : List X) (x : X) → Stands x xs → test x ≡ true → some test xs ≡ true
  stands_some test [] x m t = absurd m
  stands_some test (y ∷ ys) x (inl e) t = or_left (test y) (some test ys) (ap test e ∙ t)
  stands_some test (y ∷ ys) x (inr m) t = or_right (test y) (some test ys) (stands_some test ys x m t)

  last_step : (n : ℕ) (y : X) (t : Bool) (a : Option (ℕ × X)) → option_map (λ p. p.1) (or_else a (cond t (Some (n, y)) None)) ≡ or_else (option_map (λ p. p.1) a) (cond t (Some y) None)
  last_step n y t (Some p) = refl
  last_step n y true None = refl
  last_step n y false None = refl

  -- the last that passes, by its place or without it
  last_placed : (test : X → Bool) (n : ℕ) (xs : List X) → option_map (λ p. p.1) (last_where (λ p. test p.1) (placed n xs)) ≡ last_where test xs
  last_placed test n [] = refl
  last_placed test n (y ∷ ys) =
      last_step n y (test y) (last_where (λ p. test p.1) (placed (suc n) ys))
      ∙ ap (λ (a : Option X). or_else a (cond (test y) (Some y) None)) (last_placed test (suc n) ys)

module _ {K : Type 0} where
  cue_mapped : (a : Option (ℕ × Entry K)) → option_map (λ (w : Entry K). w.cue) (option_map (λ p. p.1) a) ≡ option_map (λ x. x.1.cue) a
  cue_mapped None = refl
  cue_mapped (Some x) = refl

-- the cues that pass are those of the entries with P
pub record Tells {K : Type 0} (passes : ℕ → Bool) (P : ℕ × Entry K → Type 0) : Type 0 where
  pub has : (n : ℕ) → passes n ≡ true → (x : ℕ × Entry K) × P x × (x.1.cue ≡ n)
  pub gives : (x : ℕ × Entry K) → P x → passes x.1.cue ≡ true

-- the writes of k among the entries ws are those with P
module _ {K : Type 0} (alike : K → K → Bool) (c : ℕ → Bool) (k : K) (n : ℕ) (ws : List (Entry K)) (P : ℕ × Entry K → Type 0)
    (of : (x : ℕ × Entry K) → Stands x (placed n ws) → sets alike c k x.1 ≡ true → P x)
    (from : (x : ℕ × Entry K) → P x → Stands x (placed n ws) × (sets alike c k x.1 ≡ true)) where
  writer_tells : Tells (writer alike c k ws) P
  writer_tells = record {
    has = λ m h.
        let r = some_stands (λ (x : ℕ × Entry K). eqb x.1.cue m && sets alike c k x.1) (placed n ws) (some_placed (λ w. eqb w.cue m && sets alike c k w) n ws ∙ h) in
        let b = and_parts (eqb r.0.1.cue m) (sets alike c k r.0.1) r.2 in
        (r.0, of r.0 r.1 b.1, eqb-true r.0.1.cue m b.0);
    gives = λ x p.
        let f = from x p in
        sym (some_placed (λ w. eqb w.cue x.1.cue && sets alike c k w) n ws)
        ∙ stands_some (λ (y : ℕ × Entry K). eqb y.1.cue x.1.cue && sets alike c k y.1) (placed n ws) x f.0
        (and_from (eqb x.1.cue x.1.cue) (sets alike c k x.1) (eq-eqb x.1.cue x.1.cue refl) f.1);
  }

  last_writer_found : (a : Option (ℕ × Entry K)) × Last Under P a × (last_writer alike c k ws ≡ option_map (λ x. x.1.cue) a)
  last_writer_found =
      let a = last_where (λ (x : ℕ × Entry K). sets alike c k x.1) (placed n ws) in (
        a,
        last_turn Under Under (λ x. Stands x (placed n ws) × (sets alike c k x.1 ≡ true)) P (λ x h. of x h.0 h.1) from (λ x y p q u. u) a
            (last_is Under (λ x. sets alike c k x.1) (placed n ws) (placed_rise n ws)),
        ap (option_map (λ (w : Entry K). w.cue)) (sym (last_placed (sets alike c k) n ws)) ∙ cue_mapped a,
      )

  last_writer_is : (a : Option (ℕ × Entry K)) → Last Under P a → last_writer alike c k ws ≡ option_map (λ x. x.1.cue) a
  last_writer_is a l = let f = last_writer_found in f.2 ∙ ap (option_map (λ (x : ℕ × Entry K). x.1.cue)) (last_same Under P under_apart f.0 a f.1 l)

module _ {K : Type 0} (alike : K → K → Bool) (es : List (Entry K)) (k : K) where
  -- x is a write of k in the committed list
  abbrev pub Writes : ℕ × Entry K → Type 0
  Writes x = Stands x (committed_list es) × (writes (alike k) x.1.act ≡ true)

  pub sets_writes : (x : ℕ × Entry K) → Stands x (placed 1 es) → sets alike (committed es) k x.1 ≡ true → Writes x
  sets_writes x m h =
      let b = and_parts (committed es x.1.cue) (writes (alike k) x.1.act) h in
      (kept_from (λ p. counts es p.1) (placed 1 es) x m (and_from (committed es x.1.cue) (touches (λ k. true) x.1.act) b.0 (writes_touch (alike k) x.1.act b.1)), b.1)

  writes_sets : (x : ℕ × Entry K) → Writes x → Stands x (placed 1 es) × (sets alike (committed es) k x.1 ≡ true)
  writes_sets x w =
      let b = kept_of (λ p. counts es p.1) (placed 1 es) x w.0 in
      (b.0, and_from (committed es x.1.cue) (writes (alike k) x.1.act) (and_parts (committed es x.1.cue) (touches (λ k. true) x.1.act) b.1).0 w.1)

  module _ (p : ℕ × Entry K) (before after : List (Entry K)) (cut : Cut 1 es p before after) where
    abbrev pub Earlier : ℕ × Entry K → Type 0
    Earlier x = Writes x × Under x p

    abbrev pub Later : ℕ × Entry K → Type 0
    Later x = Writes x × Under p x

    earlier_of : (x : ℕ × Entry K) → Stands x (placed 1 before) → sets alike (committed es) k x.1 ≡ true → Earlier x
    earlier_of x m h = let b = before_stands 1 es p before after cut x m in (sets_writes x b.0 h, b.1)

    earlier_from : (x : ℕ × Entry K) → Earlier x → Stands x (placed 1 before) × (sets alike (committed es) k x.1 ≡ true)
    earlier_from x w = let b = writes_sets x w.0 in (stands_before 1 es p before after cut x b.0 w.1, b.1)

    later_of : (x : ℕ × Entry K) → Stands x (placed (suc p.0) after) → sets alike (committed es) k x.1 ≡ true → Later x
    later_of x m h = let b = after_stands 1 es p before after cut x m in (sets_writes x b.0 h, b.1)

    later_from : (x : ℕ × Entry K) → Later x → Stands x (placed (suc p.0) after) × (sets alike (committed es) k x.1 ≡ true)
    later_from x w = let b = writes_sets x w.0 in (stands_after 1 es p before after cut x b.0 w.1, b.1)

    pub earlier_tells : Tells (writer alike (committed es) k before) Earlier
    earlier_tells = writer_tells alike (committed es) k 1 before Earlier earlier_of earlier_from

    pub later_tells : Tells (writer alike (committed es) k after) Later
    later_tells = writer_tells alike (committed es) k (suc p.0) after Later later_of later_from

    pub earlier_last : (a : Option (ℕ × Entry K)) → Last Under Earlier a → last_writer alike (committed es) k before ≡ option_map (λ x. x.1.cue) a
    earlier_last a l = last_writer_is alike (committed es) k 1 before Earlier earlier_of earlier_from a l

    pub later_last : (a : Option (ℕ × Entry K)) → Last Under Later a → last_writer alike (committed es) k after ≡ option_map (λ x. x.1.cue) a
    later_last a l = last_writer_is alike (committed es) k (suc p.0) after Later later_of later_from a l

    pub later_found : (a : Option (ℕ × Entry K)) × Last Under Later a × (last_writer alike (committed es) k after ≡ option_map (λ x. x.1.cue) a)
    later_found = last_writer_found alike (committed es) k (suc p.0) after Later later_of later_from
