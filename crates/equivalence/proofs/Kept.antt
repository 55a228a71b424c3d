-- An order that keeps every conflicting pair is view-equivalent. Assumes nothing.
use Rattle.std.proofs.Common.{◌≡◌, ℕ, Bool, true, not, ◌||◌, eqb, List, sym, ap, subst, inl, inr, ⊎_elim}
use Rattle.std.proofs.lemmas.Bool.{false≢true, eqb-true, cases_Bool, and_from, not_from_false}
use Rattle.lists.specs.Lists.{last_where}
use Rattle.orders.specs.Least.{Stands, Distinct}
use Rattle.orders.specs.Orders.{precedes}
use Rattle.history.specs.declared.Act.{Act}
use Rattle.history.specs.declared.Act.TheVariants.{Read, Write, Commit, Abort}
use Rattle.history.specs.declared.Entry.{Entry}
use Rattle.history.specs.Conflicts.{writes, meets, conflict}
use Rattle.history.specs.Entries.{committed}
use Rattle.history.specs.Order.{binds, keeps}
use Rattle.history.specs.Views.{committed_list, serial_list, front, place_of, last_write, source_at}
use Rattle.equivalence.specs.Laws.{Sameness, KeptIsView}
use Rattle.equivalence.proofs.Ordered.{imp_of, Ordered, last_same, last_turn, placed_pair}
use Rattle.equivalence.proofs.Serial.{Under, Comes, comes_apart, under_either, source_own, source_serial, last_own, last_serial}
use Rattle.equivalence.proofs.CommittedList.{committed_rise, committed_of, committed_once, committed_cover}
use Rattle.equivalence.proofs.SameViews.{view_is_same_lem}

committed_kept : {K : Type 0} (alike : K → K → Bool) (es : List (Entry K)) (o : List ℕ) → keeps alike es o ≡ true → (x y : ℕ × Entry K) → Stands x (committed_list es) → Stands y (committed_list es) → Under x y → conflict alike x.1 y.1 ≡ true → precedes x.1.cue y.1.cue o ≡ true
committed_kept alike es o h x y i j l c =
    let a = committed_of es x i in
    let b = committed_of es y j in
    imp_of (binds alike es x.1 y.1) (precedes x.1.cue y.1.cue o)
    (placed_pair (λ u v. not (binds alike es u v) || precedes u.cue v.cue o) 1 es h x y a.0 b.0 l)
    (and_from (committed es x.1.cue) _ a.3 (and_from (committed es y.1.cue) (conflict alike x.1 y.1) b.3 c))

module _ {K : Type 0} (alike : K → K → Bool) (same : Sameness alike) where
  -- acts on the same item meet
  pub writes_meet : (k : K) (a b : Act K) → writes (alike k) a ≡ true → writes (alike k) b ≡ true → meets alike a b ≡ true
  writes_meet k (Read x) b p q = absurd (false≢true p)
  writes_meet k Commit b p q = absurd (false≢true p)
  writes_meet k Abort b p q = absurd (false≢true p)
  writes_meet k (Write x) (Read y) p q = absurd (false≢true q)
  writes_meet k (Write x) Commit p q = absurd (false≢true q)
  writes_meet k (Write x) Abort p q = absurd (false≢true q)
  writes_meet k (Write x) (Write y) p q = same.transitive x k y (same.symmetric k x p) q

  pub write_meets : (k : K) (a b : Act K) → writes (alike k) a ≡ true → b ≡ Read k → meets alike a b ≡ true
  write_meets k (Read x) b p e = absurd (false≢true p)
  write_meets k Commit b p e = absurd (false≢true p)
  write_meets k Abort b p e = absurd (false≢true p)
  write_meets k (Write x) b p e = subst (λ z. meets alike (Write x) z ≡ true) (sym e) (same.symmetric k x p)

  pub read_meets : (k : K) (a b : Act K) → a ≡ Read k → writes (alike k) b ≡ true → meets alike a b ≡ true
  read_meets k a b e p = subst (λ z. meets alike z b ≡ true) (sym e) p

  -- a list that rises by place, and an order that has each of its cues once and keeps its conflicting pairs
  module _ (ps : List (ℕ × Entry K)) (o : List ℕ) (rise : Ordered Under ps) (once : Distinct o) (cover : (x : ℕ × Entry K) → Stands x ps → Stands x.1.cue o)
      (keep : (x y : ℕ × Entry K) → Stands x ps → Stands y ps → Under x y → conflict alike x.1 y.1 ≡ true → precedes x.1.cue y.1.cue o ≡ true) where
    abbrev wrote : K → ℕ × Entry K → Bool
    wrote k p = writes (alike k) p.1.act

    stays : (x y : ℕ × Entry K) → Stands x ps → Stands y ps → meets alike x.1.act y.1.act ≡ true → Under x y → Comes o x y
    stays x y i j m l =
        ⊎_elim (λ e. inr (eqb-true x.1.cue y.1.cue e, l))
        (λ e. inl (keep x y i j l (and_from (not (eqb x.1.cue y.1.cue)) (meets alike x.1.act y.1.act) (not_from_false (eqb x.1.cue y.1.cue) e) m)))
        (cases_Bool (eqb x.1.cue y.1.cue))

    stays_back : (x y : ℕ × Entry K) → Stands x ps → Stands y ps → meets alike y.1.act x.1.act ≡ true → Comes o x y → Under x y
    stays_back x y i j m c =
        ⊎_elim (λ e. absurd (comes_apart o once x x (subst (λ z. Comes o x z) (sym e) c) (subst (λ z. Comes o x z) (sym e) c)))
        (⊎_elim (λ l. l) (λ l. absurd (comes_apart o once x y c (stays y x j i m l)))) (under_either ps rise x y i j)

    same_source : (r : ℕ × Entry K) (k : K) → Stands r ps → r.1.act ≡ Read k → source_at alike k r.0 ps ≡ source_at alike k r.0 (serial_list ps o)
    same_source r k i e =
        ap place_of (last_same (Comes o) (λ x. Stands x ps × Comes o x r × (wrote k x ≡ true)) (comes_apart o once)
        (last_where (wrote k) (front r.0 ps)) (last_where (wrote k) (front r.0 (serial_list ps o)))
        (last_turn Under (Comes o) (λ x. Stands x ps × Under x r × (wrote k x ≡ true)) (λ x. Stands x ps × Comes o x r × (wrote k x ≡ true))
        (λ x m. (m.0, stays x r m.0 i (write_meets k x.1.act r.1.act m.2 e) m.1, m.2))
        (λ x m. (m.0, stays_back x r m.0 i (read_meets k r.1.act x.1.act e m.2) m.1, m.2))
        (λ x y m n l. stays x y m.0 n.0 (writes_meet k x.1.act y.1.act m.2 n.2) l)
        (last_where (wrote k) (front r.0 ps)) (source_own ps o rise once cover (wrote k) r i))
        (source_serial ps o rise once cover (wrote k) r i))

    same_last : (k : K) → last_write alike k ps ≡ last_write alike k (serial_list ps o)
    same_last k =
        ap place_of (last_same (Comes o) (λ x. Stands x ps × (wrote k x ≡ true)) (comes_apart o once)
        (last_where (wrote k) ps) (last_where (wrote k) (serial_list ps o))
        (last_turn Under (Comes o) (λ x. Stands x ps × (wrote k x ≡ true)) (λ x. Stands x ps × (wrote k x ≡ true))
        (λ x m. m) (λ x m. m)
        (λ x y m n l. stays x y m.0 n.0 (writes_meet k x.1.act y.1.act m.1 n.1) l)
        (last_where (wrote k) ps) (last_own ps o rise once cover (wrote k)))
        (last_serial ps o rise once cover (wrote k)))

pub kept_is_view_lem : (K : Type 0) → KeptIsView K
kept_is_view_lem K alike same es o order keep =
    let ps = committed_list es in
    let rise = committed_rise es in
    let once = committed_once es o order in
    let cover = committed_cover es o order in
    let kept = committed_kept alike es o keep in
    (view_is_same_lem K alike same es o order).1
    (record { sources = same_source alike same ps o rise once cover kept; lasts = same_last alike same ps o rise once cover kept })
