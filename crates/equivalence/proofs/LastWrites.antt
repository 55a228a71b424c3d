-- What writes ask of an order is that it keeps each item's last write. Assumes nothing.
use Rattle.std.proofs.Common.{◌≡◌, ℕ, Bool, true, not, ◌&&◌, eqb, ◌⊎◌, List, Some, None, Option, sym, ap, subst, inl, inr, arith}
use Rattle.std.specs.Option.{option_map}
use Rattle.std.proofs.lemmas.Bool.{false≢true, and_parts, cases_Bool, eqb-true, eqb-false, not-true}
use Rattle.lists.specs.Lists.{last_where}
use Rattle.orders.specs.Least.{Stands, Rearranges}
use Rattle.orders.specs.Orders.{precedes}
use Rattle.history.specs.declared.Act.TheVariants.{Write}
use Rattle.history.specs.declared.Entry.{Entry}
use Rattle.history.specs.Conflicts.{writes}
use Rattle.history.specs.Entries.{committed}
use Rattle.history.specs.Order.{committed_cues}
use Rattle.history.specs.Views.{committed_list, serial_list, last_write}
use Rattle.equivalence.specs.Laws.{Sameness}
use Rattle.equivalence.specs.Constraints.{write_ahead}
use Rattle.equivalence.proofs.Acts.{writes_of, writes_from, writes_same}
use Rattle.equivalence.proofs.Ordered.{Last}
use Rattle.equivalence.proofs.Serial.{Under, Comes, under_either}
use Rattle.equivalence.proofs.CommittedList.{committed_rise}
use Rattle.equivalence.proofs.Writers.{Writes}
use Rattle.equivalence.proofs.Places.{lasts_decide, lasts_own}

-- the cue of each write comes before the cue of the last one after it
abbrev pub Follows : {K : Type 0} → (K → K → Bool) → List (Entry K) → List ℕ → Type 0
Follows {K} alike es o = (k : K) (w : ℕ × Entry K) → Stands w (committed_list es) → w.1.act ≡ Write k → (s : ℕ × Entry K) → Last Under (λ x. Writes alike es k x × Under w x) (Some s) → (s.1.cue ≡ w.1.cue → ⊥) → precedes w.1.cue s.1.cue o ≡ true

module _ {K : Type 0} (alike : K → K → Bool) (same : Sameness alike) (es : List (Entry K)) (o : List ℕ) (h : Rearranges (committed_cues es) o) where
  -- the last write after a write is the last of all
  last_of_all : (k : K) (w : ℕ × Entry K) → Writes alike es k w → (s : ℕ × Entry K) → Last Under (λ x. Writes alike es k x × Under w x) (Some s) → Last Under (Writes alike es k) (Some s)
  last_of_all k w i s l = (l.0.0, λ x m. after x m (under_either (committed_list es) (committed_rise es) x w m.0 i.0))
    where
      after : (x : ℕ × Entry K) → Writes alike es k x → (x ≡ w) ⊎ (Under x w ⊎ Under w x) → (x ≡ s) ⊎ Under x s
      after x m (inl e) = inr (subst (λ (v : ℕ × Entry K). Under v s) (sym e) l.0.1)
      after x m (inr (inl u)) = inr (omega (arith, l.0.1))
      after x m (inr (inr u)) = l.1 x (m, u)

  pub write_keeps : (k : K) (w : ℕ × Entry K) → Stands w (committed_list es) → w.1.act ≡ Write k → last_write alike k (committed_list es) ≡ last_write alike k (serial_list (committed_list es) o) → (a : Option (ℕ × Entry K)) → Last Under (λ x. Writes alike es k x × Under w x) a → (x y : ℕ) → write_ahead alike (committed es) w.1.cue (option_map (λ x. x.1.cue) a) x y ≡ true → precedes x y o ≡ true
  write_keeps k w i e p None l x y t = absurd (false≢true t)
  write_keeps k w i e p (Some s) l x y t =
      let put : Writes alike es k w = (i, writes_from (alike k) w.1.act k e (same.reflexive k)) in
      let a = and_parts (eqb x w.1.cue) (eqb y s.1.cue && not (eqb s.1.cue w.1.cue)) t in
      let b = and_parts (eqb y s.1.cue) (not (eqb s.1.cue w.1.cue)) a.1 in
      subst (λ (n : ℕ). precedes n y o ≡ true) (sym (eqb-true x w.1.cue a.0))
      (subst (λ (n : ℕ). precedes w.1.cue n o ≡ true) (sym (eqb-true y s.1.cue b.0))
      (elim (((lasts_decide alike es o h k (Some s) (last_of_all k w put s l)).0 p).1 w put) [
        | inl q ↦ absurd (omega (arith, l.0.1, ap (λ (v : ℕ × Entry K). v.0) q))
        | inr (inl q) ↦ q
        | inr (inr q) ↦ absurd (eqb-false s.1.cue w.1.cue (not-true (eqb s.1.cue w.1.cue) b.1) (sym q.0))
      ]))

  pub writes_kept : Follows alike es o → (k : K) → last_write alike k (committed_list es) ≡ last_write alike k (serial_list (committed_list es) o)
  writes_kept f k = (lasts_decide alike es o h k a own).1 (go a own)
    where
      a : Option (ℕ × Entry K)
      a = last_where (λ (x : ℕ × Entry K). writes (alike k) x.1.act) (committed_list es)

      own : Last Under (Writes alike es k) a
      own = lasts_own alike es o h k

      turn : (l : K) → alike k l ≡ true → (x : ℕ × Entry K) → Writes alike es k x → Writes alike es l x
      turn l e x m = (m.0, writes_same alike same k l e x.1.act m.1)

      back : (l : K) → alike k l ≡ true → (x : ℕ × Entry K) → Writes alike es l x → Writes alike es k x
      back l e x m = (m.0, writes_same alike same l k (same.symmetric k l e) x.1.act m.1)

      comes : (s : ℕ × Entry K) → Last Under (Writes alike es k) (Some s) → (x : ℕ × Entry K) → Writes alike es k x → Under x s → Comes o x s
      comes s l x m u =
          elim (cases_Bool (eqb s.1.cue x.1.cue)) [
            | inl t ↦ inr (sym (eqb-true s.1.cue x.1.cue t), u)
            | inr t ↦
                let w = writes_of (alike k) x.1.act m.1 in
                inl (f w.0 x m.0 w.1 s ((turn w.0 w.2 s l.0, u), λ y n. l.1 y (back w.0 w.2 y n.0)) (eqb-false s.1.cue x.1.cue t))
          ]

      go : (a : Option (ℕ × Entry K)) → Last Under (Writes alike es k) a → Last (Comes o) (Writes alike es k) a
      go None l = l
      go (Some s) l = (l.0, λ x m. elim (l.1 x m) [ inl e ↦ inl e | inr u ↦ inr (comes s l x m u) ])
