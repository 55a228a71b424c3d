-- What comes before a place, and the serial list of an order. Assumes nothing.
use Rattle.std.proofs.Common.{◌≡◌, ℕ, ◌<◌, Bool, true, false, eqb, ◌⊎◌, List, [], ◌∷◌, filter, sym, refl, ap, ◌∙◌, subst, inl, inr, ⊎_elim, arith}
use Rattle.std.proofs.lemmas.Bool.{both_ways, false≢true, eqb-true, eq-eqb, ne_eqb, cases_Bool, cond_both, cond-true, cond-false, or_cases}
use Rattle.lists.specs.Lists.{has, last_where}
use Rattle.orders.specs.Least.{Stands, Distinct}
use Rattle.orders.specs.Orders.{precedes}
use Rattle.orders.proofs.Precedence.{stands_has, precedes_on, precedes_never}
use Rattle.history.specs.declared.Entry.{Entry}
use Rattle.history.specs.Views.{front, serial_list}
use Rattle.equivalence.proofs.Standing.{stands_joined, joined_stands}
use Rattle.equivalence.proofs.Ordered.{kept_of, kept_from, Apart, Ordered, ordered_kept, ordered_append, ordered_turn, Last, last_is, last_turn, place_names}

once_rest : (n : ℕ) (ns : List ℕ) → Distinct (n ∷ ns) → Distinct ns
once_rest n ns d = d.1

once_first : (n : ℕ) (ns : List ℕ) → Distinct (n ∷ ns) → Stands n ns → ⊥
once_first n ns d k = both_ways (has n ns) d.0 (stands_has n ns k)

pub has_stands : (a : ℕ) (ns : List ℕ) → has a ns ≡ true → Stands a ns
has_stands a [] h = absurd (false≢true h)
has_stands a (n ∷ ns) h = ⊎_elim (λ e. inl (eqb-true n a e)) (λ k. inr (has_stands a ns k)) (or_cases (eqb n a) (has a ns) h)

module _ (a b n : ℕ) (ns : List ℕ) where
  prec_hit : eqb n a ≡ true → precedes a b (n ∷ ns) ≡ has b ns
  prec_hit e = cond-true (eqb n a) (has b ns) (precedes a b ns) e

  prec_miss : eqb n a ≡ false → precedes a b (n ∷ ns) ≡ precedes a b ns
  prec_miss e = cond-false (eqb n a) (has b ns) (precedes a b ns) e

pub prec_apart : (a b : ℕ) (o : List ℕ) → Distinct o → precedes a b o ≡ true → precedes b a o ≡ true → ⊥
prec_apart a b o d h k = precedes_never a o d (precedes_on a b a o d h k)

pub prec_self : (a b : ℕ) (o : List ℕ) → Distinct o → precedes a b o ≡ true → a ≡ b → ⊥
prec_self a b o d h e = precedes_never a o d (subst (λ (n : ℕ). precedes a n o ≡ true) (sym e) h)

pub prec_either : (a b : ℕ) (o : List ℕ) → Stands a o → Stands b o → (a ≡ b → ⊥) → (precedes a b o ≡ true) ⊎ (precedes b a o ≡ true)
prec_either a b [] i j d = absurd i
prec_either a b (n ∷ ns) (inl e) (inl f) d = absurd (d (sym e ∙ f))
prec_either a b (n ∷ ns) (inl e) (inr j) d = inl (prec_hit a b n ns (eq-eqb n a e) ∙ stands_has b ns j)
prec_either a b (n ∷ ns) (inr i) (inl f) d = inr (prec_hit b a n ns (eq-eqb n b f) ∙ stands_has a ns i)
prec_either a b (n ∷ ns) (inr i) (inr j) d =
    ⊎_elim
    (λ e. inl (prec_hit a b n ns e ∙ stands_has b ns j))
    (λ e. ⊎_elim
    (λ f. inr (prec_hit b a n ns f ∙ stands_has a ns i))
    (λ f. ⊎_elim (λ p. inl (prec_miss a b n ns e ∙ p)) (λ p. inr (prec_miss b a n ns f ∙ p)) (prec_either a b ns i j d))
    (cases_Bool (eqb n b)))
    (cases_Bool (eqb n a))

module _ {K : Type 0} where
  -- what comes before a place
  front_both : (q : ℕ) (p : ℕ × Entry K) (ps : List (ℕ × Entry K)) (P : List (ℕ × Entry K) → Type 0) → (eqb p.0 q ≡ true → P []) → (eqb p.0 q ≡ false → P (p ∷ front q ps)) → P (front q (p ∷ ps))
  front_both q p ps P f g = cond_both (eqb p.0 q) [] (p ∷ front q ps) P f g

  pub front_part : (q : ℕ) (ps : List (ℕ × Entry K)) (x : ℕ × Entry K) → Stands x (front q ps) → Stands x ps
  front_part q [] x h = h
  front_part q (p ∷ ps) x h =
      front_both q p ps (λ l. Stands x l → Stands x (p ∷ ps)) (λ e m. absurd m) (λ e m. ⊎_elim inl (λ k. inr (front_part q ps x k)) m) h

  module _ (R : ℕ × Entry K → ℕ × Entry K → Type 0) where
    front_ordered : (q : ℕ) (ps : List (ℕ × Entry K)) → Ordered R ps → Ordered R (front q ps)
    front_ordered q [] u = tt
    front_ordered q (p ∷ ps) u =
        front_both q p ps (Ordered R) (λ e. tt) (λ e. (λ y m. u.0 y (front_part q ps y m), front_ordered q ps u.1))

    pub front_of : (ps : List (ℕ × Entry K)) → Ordered R ps → (r x : ℕ × Entry K) → Stands r ps → Stands x (front r.0 ps) → R x r
    front_of [] u r x i h = absurd i
    front_of (p ∷ ps) u r x i h =
        front_both r.0 p ps (λ l. Stands x l → R x r) (λ e m. absurd m)
        (λ e m. ⊎_elim (λ a. absurd (both_ways (eqb p.0 r.0) e (eq-eqb p.0 r.0 (ap (λ (z : ℕ × Entry K). z.0) a))))
        (λ j. ⊎_elim (λ a. subst (λ z. R z r) a (u.0 r j)) (λ k. front_of ps u.1 r x j k) m) i)
        h

    pub front_from : Apart R → (ps : List (ℕ × Entry K)) → Ordered R ps → (r x : ℕ × Entry K) → Stands r ps → ((y : ℕ × Entry K) → Stands y ps → y.0 ≡ r.0 → y ≡ r) → Stands x ps → R x r → Stands x (front r.0 ps)
    front_from d [] u r x i names j l = absurd i
    front_from d (p ∷ ps) u r x i names j l =
        front_both r.0 p ps (λ t. Stands x t)
        (λ e. let s = names p (inl refl) (eqb-true p.0 r.0 e) in
        ⊎_elim (λ a. d x r l (subst (λ z. R r z) (sym (sym a ∙ s)) (subst (λ z. R z r) (sym a ∙ s) l)))
        (λ k. d x r l (subst (λ z. R z x) s (u.0 x k))) j)
        (λ e. ⊎_elim inl
        (λ k. ⊎_elim (λ a. absurd (both_ways (eqb p.0 r.0) e (eq-eqb p.0 r.0 (ap (λ (z : ℕ × Entry K). z.0) a))))
        (λ i'. inr (front_from d ps u.1 r x i' (λ y m. names y (inr m)) k l)) i) j)

    -- the last before r that passes
    pub source_is : Apart R → (test : ℕ × Entry K → Bool) (ps : List (ℕ × Entry K)) → Ordered R ps → (r : ℕ × Entry K) → Stands r ps → ((y : ℕ × Entry K) → Stands y ps → y.0 ≡ r.0 → y ≡ r) → Last R (λ x. Stands x ps × R x r × (test x ≡ true)) (last_where test (front r.0 ps))
    source_is d test ps u r i names =
        last_turn R R (λ x. Stands x (front r.0 ps) × (test x ≡ true)) (λ x. Stands x ps × R x r × (test x ≡ true))
        (λ x m. (front_part r.0 ps x m.0, front_of ps u r x i m.0, m.1))
        (λ x m. (front_from d ps u r x i names m.0 m.1, m.2))
        (λ x y m n l. l) (last_where test (front r.0 ps)) (last_is R test (front r.0 ps) (front_ordered r.0 ps u))

  -- by place
  abbrev pub Under : ℕ × Entry K → ℕ × Entry K → Type 0
  Under x y = x.0 < y.0

  -- by cue in the order, and then by place
  abbrev pub Comes : List ℕ → ℕ × Entry K → ℕ × Entry K → Type 0
  Comes o x y = (precedes x.1.cue y.1.cue o ≡ true) ⊎ ((x.1.cue ≡ y.1.cue) × (x.0 < y.0))

  pub under_apart : Apart Under
  under_apart x y l m = omega arith

  pub comes_apart : (o : List ℕ) → Distinct o → Apart (Comes o)
  comes_apart o u x y (inl p) (inl q) = prec_apart x.1.cue y.1.cue o u p q
  comes_apart o u x y (inl p) (inr q) = prec_self x.1.cue y.1.cue o u p (sym q.0)
  comes_apart o u x y (inr p) (inl q) = prec_self y.1.cue x.1.cue o u q (sym p.0)
  comes_apart o u x y (inr p) (inr q) = omega (arith, p.1, q.1)

  pub under_either : (ps : List (ℕ × Entry K)) → Ordered Under ps → (x y : ℕ × Entry K) → Stands x ps → Stands y ps → (x ≡ y) ⊎ (Under x y ⊎ Under y x)
  under_either [] u x y i j = absurd i
  under_either (p ∷ ps) u x y (inl a) (inl b) = inl (sym a ∙ b)
  under_either (p ∷ ps) u x y (inl a) (inr j) = inr (inl (subst (λ z. Under z y) a (u.0 y j)))
  under_either (p ∷ ps) u x y (inr i) (inl b) = inr (inr (subst (λ z. Under z x) b (u.0 x i)))
  under_either (p ∷ ps) u x y (inr i) (inr j) = under_either ps u.1 x y i j

  pub comes_either : (ps : List (ℕ × Entry K)) (o : List ℕ) → Ordered Under ps → ((x : ℕ × Entry K) → Stands x ps → Stands x.1.cue o) → (x y : ℕ × Entry K) → Stands x ps → Stands y ps → (x ≡ y) ⊎ (Comes o x y ⊎ Comes o y x)
  comes_either ps o u cover x y i j =
      ⊎_elim
      (λ e. let c = eqb-true x.1.cue y.1.cue e in ⊎_elim inl (λ s. inr (⊎_elim (λ l. inl (inr (c, l))) (λ l. inr (inr (sym c, l))) s)) (under_either ps u x y i j))
      (λ e. inr (⊎_elim (λ p. inl (inl p)) (λ p. inr (inl p)) (prec_either x.1.cue y.1.cue o (cover x i) (cover y j) (λ c. both_ways (eqb x.1.cue y.1.cue) e (eq-eqb x.1.cue y.1.cue c)))))
      (cases_Bool (eqb x.1.cue y.1.cue))

  -- the serial list has the entries of the order's cues, by cue and then by place
  pub serial_of : (ps : List (ℕ × Entry K)) (o : List ℕ) (x : ℕ × Entry K) → Stands x (serial_list ps o) → Stands x ps × Stands x.1.cue o
  serial_of ps o x h =
      let j = joined_stands (λ n. filter (λ p. eqb p.1.cue n) ps) x o h in
      let k = kept_of (λ p. eqb p.1.cue j.0) ps x j.2 in
      (k.0, subst (λ n. Stands n o) (sym (eqb-true x.1.cue j.0 k.1)) j.1)

  pub serial_from : (ps : List (ℕ × Entry K)) (o : List ℕ) (x : ℕ × Entry K) → Stands x ps → Stands x.1.cue o → Stands x (serial_list ps o)
  serial_from ps o x i j =
      stands_joined (λ n. filter (λ p. eqb p.1.cue n) ps) x x.1.cue o j (kept_from (λ p. eqb p.1.cue x.1.cue) ps x i (eq-eqb x.1.cue x.1.cue refl))

  pub serial_ordered : (ps : List (ℕ × Entry K)) (o : List ℕ) → Ordered Under ps → Distinct o → Ordered (Comes o) (serial_list ps o)
  serial_ordered ps [] u c = tt
  serial_ordered ps (n ∷ ns) u c =
      let own : List (ℕ × Entry K) = filter (λ p. eqb p.1.cue n) ps in
      let cue_is : (x : ℕ × Entry K) → Stands x own → x.1.cue ≡ n = λ x i. eqb-true x.1.cue n (kept_of (λ p. eqb p.1.cue n) ps x i).1 in
      ordered_append (Comes (n ∷ ns)) own (serial_list ps ns)
      (ordered_turn Under (Comes (n ∷ ns)) own (λ x y i j l. inr (cue_is x i ∙ sym (cue_is y j), l)) (ordered_kept Under (λ p. eqb p.1.cue n) ps u))
      (ordered_turn (Comes ns) (Comes (n ∷ ns)) (serial_list ps ns)
      (λ x y i j r. ⊎_elim (λ p. inl (prec_miss x.1.cue y.1.cue n ns (ne_eqb n x.1.cue (λ e. once_first n ns c (subst (λ z. Stands z ns) (sym e) (serial_of ps ns x i).1))) ∙ p)) inr r)
      (serial_ordered ps ns u (once_rest n ns c)))
      (λ x y i j. inl (prec_hit x.1.cue y.1.cue n ns (eq-eqb n x.1.cue (sym (cue_is x i))) ∙ stands_has y.1.cue ns (serial_of ps ns y j).1))

-- a list that rises by place, and an order that has each of its cues once
module _ {K : Type 0} (ps : List (ℕ × Entry K)) (o : List ℕ) (rise : Ordered Under ps) (once : Distinct o) (cover : (x : ℕ × Entry K) → Stands x ps → Stands x.1.cue o) (test : ℕ × Entry K → Bool) where
  pub source_own : (r : ℕ × Entry K) → Stands r ps → Last Under (λ x. Stands x ps × Under x r × (test x ≡ true)) (last_where test (front r.0 ps))
  source_own r i = source_is Under under_apart test ps rise r i (λ y j e. place_names ps rise y r j i e)

  pub source_serial : (r : ℕ × Entry K) → Stands r ps → Last (Comes o) (λ x. Stands x ps × Comes o x r × (test x ≡ true)) (last_where test (front r.0 (serial_list ps o)))
  source_serial r i =
      last_turn (Comes o) (Comes o) (λ x. Stands x (serial_list ps o) × Comes o x r × (test x ≡ true)) (λ x. Stands x ps × Comes o x r × (test x ≡ true))
      (λ x m. ((serial_of ps o x m.0).0, m.1, m.2)) (λ x m. (serial_from ps o x m.0 (cover x m.0), m.1, m.2)) (λ x y m n l. l)
      (last_where test (front r.0 (serial_list ps o)))
      (source_is (Comes o) (comes_apart o once) test (serial_list ps o) (serial_ordered ps o rise once) r (serial_from ps o r i (cover r i))
      (λ y j e. place_names ps rise y r (serial_of ps o y j).0 i e))

  pub last_own : Last Under (λ x. Stands x ps × (test x ≡ true)) (last_where test ps)
  last_own = last_is Under test ps rise

  pub last_serial : Last (Comes o) (λ x. Stands x ps × (test x ≡ true)) (last_where test (serial_list ps o))
  last_serial =
      last_turn (Comes o) (Comes o) (λ x. Stands x (serial_list ps o) × (test x ≡ true)) (λ x. Stands x ps × (test x ≡ true))
      (λ x m. ((serial_of ps o x m.0).0, m.1)) (λ x m. (serial_from ps o x m.0 (cover x m.0), m.1)) (λ x y m n l. l)
      (last_where test (serial_list ps o)) (last_is (Comes o) test (serial_list ps o) (serial_ordered ps o rise once))
