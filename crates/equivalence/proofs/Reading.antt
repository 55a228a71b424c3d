-- What a read asks of an order is that it keeps the read's source. Assumes nothing.
use Rattle.std.proofs.Common.{◌≡◌, ℕ, Bool, true, false, not, ◌&&◌, ◌||◌, eqb, ◌⊎◌, List, Some, None, Option, sym, refl, ap, ◌∙◌, subst, inl, inr, arith}
use Rattle.std.specs.Option.{option_map}
use Rattle.std.proofs.lemmas.Bool.{false≢true, and_from, and_parts, cases_Bool, eq-eqb, eqb-true, eqb-false, ne_eqb, not-true, not_from_false, or_cases, or_left, or_right}
use Rattle.orders.specs.Least.{Stands, Distinct}
use Rattle.orders.specs.Orders.{precedes}
use Rattle.history.specs.declared.Entry.{Entry}
use Rattle.equivalence.specs.Constraints.{writer, read_hides, read_ahead, read_apart}
use Rattle.equivalence.proofs.Ordered.{Last}
use Rattle.equivalence.proofs.Serial.{prec_apart, prec_self, prec_either, Under, Comes}
use Rattle.equivalence.proofs.Writers.{Tells}

apart_of : (a b : ℕ) → not (eqb a b) ≡ true → a ≡ b → ⊥
apart_of a b h = eqb-false a b (not-true (eqb a b) h)

apart_from : (a b : ℕ) → (a ≡ b → ⊥) → not (eqb a b) ≡ true
apart_from a b h = not_from_false (eqb a b) (ne_eqb a b h)

-- the order keeps what a read of k by cue i asks, with the cue of its source
pub record Keeps {K : Type 0} (alike : K → K → Bool) (c : ℕ → Bool) (o : List ℕ) (k : K) (i : ℕ) (before after : List (Entry K)) (a : Option ℕ) : Type 0 where
  pub shown : read_hides alike c k i before after a ≡ true → ⊥
  pub ahead : (x y : ℕ) → read_ahead alike c k i after a x y ≡ true → precedes x y o ≡ true
  pub apart : (j q n : ℕ) → read_apart alike c k i before after a j q n ≡ true → (precedes n j o ≡ true) ⊎ (precedes q n o ≡ true)

-- W are the writes of k, and r is the read
module _ {K : Type 0} (alike : K → K → Bool) (c : ℕ → Bool) (o : List ℕ) (once : Distinct o) (k : K)
    (W : ℕ × Entry K → Type 0) (r : ℕ × Entry K) (before after : List (Entry K))
    (cover : (x : ℕ × Entry K) → W x → Stands x.1.cue o) (here : Stands r.1.cue o) (side : (x : ℕ × Entry K) → W x → Under x r ⊎ Under r x)
    (early : Tells (writer alike c k before) (λ x. W x × Under x r)) (late : Tells (writer alike c k after) (λ x. W x × Under r x)) where
  abbrev Seen : ℕ × Entry K → Type 0
  Seen x = W x × Under x r

  abbrev Shown : ℕ × Entry K → Type 0
  Shown x = W x × Comes o x r

  -- what comes first comes first by cue, where the cues differ
  comes_cue : (x y : ℕ × Entry K) → (x.1.cue ≡ y.1.cue → ⊥) → Comes o x y → precedes x.1.cue y.1.cue o ≡ true
  comes_cue x y d (inl p) = p
  comes_cue x y d (inr q) = absurd (d q.0)

  none_keeps : Last (Comes o) Shown None → Keeps alike c o k r.1.cue before after None
  none_keeps m = record {
    shown = λ h. false≢true h;
    ahead = λ x y h.
        let i = r.1.cue in
        let a = and_parts (eqb x i) (not (eqb y i) && writer alike c k after y) h in
        let b = and_parts (not (eqb y i)) (writer alike c k after y) a.1 in
        let w = late.has y b.1 in
        let e = eqb-true x i a.0 in
        elim (prec_either i y o here (subst (λ (n : ℕ). Stands n o) w.2 (cover w.0 w.1.0)) (λ q. apart_of y i b.0 (sym q))) [
          | inl p ↦ subst (λ (n : ℕ). precedes n y o ≡ true) (sym e) p
          | inr p ↦ absurd (m w.0 (w.1.0, inl (subst (λ (n : ℕ). precedes n i o ≡ true) (sym w.2) p)))
        ];
    apart = λ j q n h. absurd (false≢true h);
  }

  none_kept : Last Under Seen None → Keeps alike c o k r.1.cue before after None → Last (Comes o) Shown None
  none_kept l h x (w, inr q) = l x (w, q.1)
  none_kept l h x (w, inl p) =
      elim (side x w) [
        | inl u ↦ l x (w, u)
        | inr u ↦
            let i = r.1.cue in
            let n = x.1.cue in
            prec_apart n i o once p
            (h.ahead i n (and_from (eqb i i) (not (eqb n i) && writer alike c k after n) (eq-eqb i i refl)
            (and_from (not (eqb n i)) (writer alike c k after n) (apart_from n i (prec_self n i o once p)) (late.gives x (w, u)))))
      ]

  -- a writer of k has a write before the read or after it
  written : (n : ℕ) → (writer alike c k before n || writer alike c k after n) ≡ true → (w : ℕ × Entry K) × W w × (w.1.cue ≡ n)
  written n h =
      elim (or_cases (writer alike c k before n) (writer alike c k after n) h) [
        | inl t ↦ let w = early.has n t in (w.0, w.1.0, w.2)
        | inr t ↦ let w = late.has n t in (w.0, w.1.0, w.2)
      ]

  writes_either : (x : ℕ × Entry K) → W x → (writer alike c k before x.1.cue || writer alike c k after x.1.cue) ≡ true
  writes_either x w =
      elim (side x w) [
        | inl u ↦ or_left (writer alike c k before x.1.cue) (writer alike c k after x.1.cue) (early.gives x (w, u))
        | inr u ↦ or_right (writer alike c k before x.1.cue) (writer alike c k after x.1.cue) (late.gives x (w, u))
      ]

  apart_asked : (j n : ℕ) → not (eqb j r.1.cue) ≡ true → eqb n j ≡ false → (n ≡ r.1.cue → ⊥) → (writer alike c k before n || writer alike c k after n) ≡ true → read_apart alike c k r.1.cue before after (Some j) j r.1.cue n ≡ true
  apart_asked j n d f g h =
      let i = r.1.cue in
      let wr = writer alike c k before n || writer alike c k after n in
      and_from (eqb j j && (eqb i i && not (eqb j i))) ((not (eqb n j) && not (eqb n i)) && wr)
      (and_from (eqb j j) (eqb i i && not (eqb j i)) (eq-eqb j j refl) (and_from (eqb i i) (not (eqb j i)) (eq-eqb i i refl) d))
      (and_from (not (eqb n j) && not (eqb n i)) wr (and_from (not (eqb n j)) (not (eqb n i)) (not_from_false (eqb n j) f) (apart_from n i g)) h)

  module _ (s : ℕ × Entry K) (l : Last Under Seen (Some s)) where
    cue_of : (x : ℕ × Entry K) (n : ℕ) → x ≡ s → x.1.cue ≡ n → s.1.cue ≡ n
    cue_of x n e f = sym (ap (λ (v : ℕ × Entry K). v.1.cue) e) ∙ f

    -- another cue's write is the source: no write of the reader stands before the read, and no write of that cue after it
    other_shown : Last (Comes o) Shown (Some s) → (s.1.cue ≡ r.1.cue → ⊥) → (writer alike c k before r.1.cue || writer alike c k after s.1.cue) ≡ true → ⊥
    other_shown m d h =
        let i = r.1.cue in
        let j = s.1.cue in
        let p : precedes j i o ≡ true = comes_cue s r d m.0.1 in
        elim (or_cases (writer alike c k before i) (writer alike c k after j) h) [
          | inl t ↦
              let w = early.has i t in
              elim (m.1 w.0 (w.1.0, inr (w.2, w.1.1))) [
                | inl e ↦ d (cue_of w.0 i e w.2)
                | inr (inl q) ↦ prec_apart i j o once (subst (λ (n : ℕ). precedes n j o ≡ true) w.2 q) p
                | inr (inr q) ↦ d (sym q.0 ∙ w.2)
              ]
          | inr t ↦
              let w = late.has j t in
              elim (m.1 w.0 (w.1.0, inl (subst (λ (n : ℕ). precedes n i o ≡ true) (sym w.2) p))) [
                | inl e ↦ omega (arith, ap (λ (v : ℕ × Entry K). v.0) e, w.1.1, l.0.1)
                | inr (inl q) ↦ prec_self w.0.1.cue j o once q w.2
                | inr (inr q) ↦ omega (arith, q.1, w.1.1, l.0.1)
              ]
        ]

    -- and no other writer comes between the two
    other_apart : Last (Comes o) Shown (Some s) → (n : ℕ) → (n ≡ s.1.cue → ⊥) → (n ≡ r.1.cue → ⊥) → (w : ℕ × Entry K) → W w → w.1.cue ≡ n → (precedes n s.1.cue o ≡ true) ⊎ (precedes r.1.cue n o ≡ true)
    other_apart m n d f w i e =
        elim (prec_either n r.1.cue o (subst (λ (z : ℕ). Stands z o) e (cover w i)) here f) [
          | inl p ↦
              elim (m.1 w (i, inl (subst (λ (z : ℕ). precedes z r.1.cue o ≡ true) (sym e) p))) [
                | inl q ↦ absurd (d (sym (cue_of w n q e)))
                | inr q ↦ inl (subst (λ (z : ℕ). precedes z s.1.cue o ≡ true) e (comes_cue w s (λ g. d (sym e ∙ g)) q))
              ]
          | inr p ↦ inr p
        ]

    some_keeps : Last (Comes o) Shown (Some s) → Keeps alike c o k r.1.cue before after (Some s.1.cue)
    some_keeps m = record {
      shown = λ h.
          let i = r.1.cue in
          let j = s.1.cue in
          let a = and_parts (not (eqb j i)) (writer alike c k before i || writer alike c k after j) h in
          other_shown m (apart_of j i a.0) a.1;
      ahead = λ x y h.
          let i = r.1.cue in
          let j = s.1.cue in
          let a = and_parts (eqb x j) (eqb y i && not (eqb j i)) h in
          let b = and_parts (eqb y i) (not (eqb j i)) a.1 in
          subst (λ (n : ℕ). precedes n y o ≡ true) (sym (eqb-true x j a.0))
          (subst (λ (n : ℕ). precedes j n o ≡ true) (sym (eqb-true y i b.0)) (comes_cue s r (apart_of j i b.1) m.0.1));
      apart = λ x y n h.
          let i = r.1.cue in
          let j = s.1.cue in
          let wr = writer alike c k before n || writer alike c k after n in
          let a = and_parts (eqb x j && (eqb y i && not (eqb j i))) ((not (eqb n j) && not (eqb n i)) && wr) h in
          let b = and_parts (eqb x j) (eqb y i && not (eqb j i)) a.0 in
          let d = and_parts (eqb y i) (not (eqb j i)) b.1 in
          let e = and_parts (not (eqb n j) && not (eqb n i)) wr a.1 in
          let f = and_parts (not (eqb n j)) (not (eqb n i)) e.0 in
          let w = written n e.1 in
          subst (λ (z : ℕ). (precedes n z o ≡ true) ⊎ (precedes y n o ≡ true)) (sym (eqb-true x j b.0))
          (subst (λ (z : ℕ). (precedes n j o ≡ true) ⊎ (precedes z n o ≡ true)) (sym (eqb-true y i d.0))
          (other_apart m n (apart_of n j f.0) (apart_of n i f.1) w.0 w.1 w.2));
    }

    -- of its own cue's write
    own_kept : s.1.cue ≡ r.1.cue → Last (Comes o) Shown (Some s)
    own_kept e = (
      (l.0.0, inr (e, l.0.1)),
      λ x m.
          elim m.1 [
            | inl p ↦ inr (inl (subst (λ (n : ℕ). precedes x.1.cue n o ≡ true) (sym e) p))
            | inr q ↦ elim (l.1 x (m.0, q.1)) [ inl f ↦ inl f | inr u ↦ inr (inr (q.0 ∙ sym e, u)) ]
          ],
    )

    other_kept : (s.1.cue ≡ r.1.cue → ⊥) → Keeps alike c o k r.1.cue before after (Some s.1.cue) → Last (Comes o) Shown (Some s)
    other_kept d h =
        let i = r.1.cue in
        let j = s.1.cue in
        let other : not (eqb j i) ≡ true = apart_from j i d in
        let hidden : (writer alike c k before i || writer alike c k after j) ≡ true → ⊥ =
        λ t. h.shown (and_from (not (eqb j i)) (writer alike c k before i || writer alike c k after j) other t) in
        let p : precedes j i o ≡ true = h.ahead j i (and_from (eqb j j) (eqb i i && not (eqb j i)) (eq-eqb j j refl) (and_from (eqb i i) (not (eqb j i)) (eq-eqb i i refl) other)) in (
          (l.0.0, inl p),
          λ x m.
              elim m.1 [
                | inr q ↦ absurd (hidden (or_left (writer alike c k before i) (writer alike c k after j) (subst (λ (n : ℕ). writer alike c k before n ≡ true) q.0 (early.gives x (m.0, q.1)))))
                | inl q ↦
                    elim (cases_Bool (eqb x.1.cue j)) [
                      | inl t ↦
                          let e = eqb-true x.1.cue j t in
                          elim (side x m.0) [
                            | inl u ↦ elim (l.1 x (m.0, u)) [ inl f ↦ inl f | inr v ↦ inr (inr (e, v)) ]
                            | inr u ↦ absurd (hidden (or_right (writer alike c k before i) (writer alike c k after j) (subst (λ (n : ℕ). writer alike c k after n ≡ true) e (late.gives x (m.0, u)))))
                          ]
                      | inr f ↦
                          elim (h.apart j i x.1.cue (apart_asked j x.1.cue other f (prec_self x.1.cue i o once q) (writes_either x m.0))) [
                            | inl v ↦ inr (inl v)
                            | inr v ↦ absurd (prec_apart x.1.cue i o once q v)
                          ]
                    ]
              ],
        )

  pub source_keeps : (a : Option (ℕ × Entry K)) → Last Under Seen a → Last (Comes o) Shown a → Keeps alike c o k r.1.cue before after (option_map (λ x. x.1.cue) a)
  source_keeps None l m = none_keeps m
  source_keeps (Some s) l m = some_keeps s l m

  pub source_kept : (a : Option (ℕ × Entry K)) → Last Under Seen a → Keeps alike c o k r.1.cue before after (option_map (λ x. x.1.cue) a) → Last (Comes o) Shown a
  source_kept None l h = none_kept l h
  source_kept (Some s) l h = elim (cases_Bool (eqb s.1.cue r.1.cue)) [ inl t ↦ own_kept s l (eqb-true s.1.cue r.1.cue t) | inr f ↦ other_kept s l (eqb-false s.1.cue r.1.cue f) h ]
