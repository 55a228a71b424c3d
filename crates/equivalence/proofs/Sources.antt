-- The sources of reads and the last writes of items, told by places.
use Rattle.std.proofs.Common.{◌≡◌, ◌↔◌, ℕ, zero, suc, ◌+◌, ◌<◌, Bool, true, List, [], ◌∷◌, Some, None, Option, sym, refl, ap, ◌∙◌, subst, inl, inr, ⊎_elim, arith}
use Rattle.std.specs.List.{slice_get}
use Rattle.std.proofs.lemmas.Bool.{and_from}
use Rattle.lists.specs.Lists.{last_where, placed}
use Rattle.orders.specs.Least.{Stands}
use Rattle.orders.proofs.Precedence.{precedes_comes, comes_precedes}
use Rattle.history.specs.declared.Act.{Act}
use Rattle.history.specs.declared.Act.TheVariants.{Read, Write, Commit, Abort}
use Rattle.history.specs.declared.Entry.{Entry}
use Rattle.history.specs.Conflicts.{writes, touches}
use Rattle.history.specs.Entries.{committed}
use Rattle.history.specs.Places.{entry_at, item_read, ReadsAt}
use Rattle.history.specs.Views.{counts, committed_list, serial_list, front, place_of, last_write, source_at}
use Rattle.history.specs.Answers.{IsOrder, KeepsView}
use Rattle.history.proofs.Places.{writes_item, item_writes}
use Rattle.equivalence.specs.Sources.{EnteredBefore, SerialBefore, IsLast, LastPlace, CommittedWrite, PlacesAreTold, KeepsPlaces, SourcesAreTold, ViewIsTold}
use Rattle.equivalence.proofs.Acts.{read_touches}
use Rattle.equivalence.proofs.Ordered.{Apart, kept_from, Last, last_is, place_names}
use Rattle.equivalence.proofs.Serial.{Under, Comes, under_apart, comes_apart, last_serial, source_is, source_serial}
use Rattle.equivalence.proofs.CommittedList.{committed_rise, committed_of, committed_once, committed_cover}
use Rattle.equivalence.proofs.Writers.{Writes, sets_writes}

-- elements by their places, and by their indices
module _ {X : Type 0} where
  placed_get : (n : ℕ) (xs : List X) (p : ℕ × X) → Stands p (placed n xs) → (i : ℕ) × (p.0 ≡ n + i) × (slice_get xs i ≡ Some p.1)
  placed_get n [] p h = absurd h
  placed_get n (x ∷ xs) p (inl e) = (0, omega (arith, ap (λ (q : ℕ × X). q.0) e), ap (λ (q : ℕ × X). Some q.1) e)
  placed_get n (x ∷ xs) p (inr h) = let r = placed_get (suc n) xs p h in (suc r.0, omega (arith, r.1), r.2)

  get_placed : (n : ℕ) (xs : List X) (i p : ℕ) (x : X) → p ≡ n + i → slice_get xs i ≡ Some x → Stands (p, x) (placed n xs)
  get_placed n [] i p x e g = cc
  get_placed n (y ∷ ys) zero p x e g =
      let same : y ≡ x = cc in
      let num : n ≡ p = omega (arith, e) in
      inl (λ k. (num k, same k))
  get_placed n (y ∷ ys) (suc i) p x e g = inr (get_placed (suc n) ys i p x (omega (arith, e)) g)

act_read : {K : Type 0} (a : Act K) (k : K) → item_read a ≡ Some k → a ≡ Read k
act_read (Read j) k h = let e : j ≡ k = cc in ap Read e
act_read (Write j) k h = cc
act_read Commit k h = cc
act_read Abort k h = cc

module _ {K : Type 0} (es : List (Entry K)) where
  placed_entry : (x : ℕ × Entry K) → Stands x (placed 1 es) → entry_at es x.0 ≡ Some x.1
  placed_entry x m =
      let r = placed_get 1 es x m in
      let e : x.0 ≡ suc r.0 = omega (arith, r.1) in
      ap (entry_at es) e ∙ r.2

  entry_placed : (p : ℕ) (e : Entry K) → entry_at es p ≡ Some e → Stands (p, e) (placed 1 es)
  entry_placed zero e h = cc
  entry_placed (suc i) e h = get_placed 1 es i (suc i) e (omega arith) h

  -- a read of a committed cue stands in the committed list
  read_stands : (m q : ℕ) (k : K) → committed es m ≡ true → (r : ReadsAt es q m k) → Stands (q, record { cue = m; act = r.act }) (committed_list es)
  read_stands m q k c r =
      kept_from (λ p. counts es p.1) (placed 1 es) (q, record { cue = m; act = r.act })
      (entry_placed q (record { cue = m; act = r.act }) r.entry)
      (and_from (committed es m) (touches (λ k. true) r.act) c (read_touches r.act k (act_read r.act k r.item)))

module _ {K : Type 0} (alike : K → K → Bool) (es : List (Entry K)) (k : K) where
  write_told : (x : ℕ × Entry K) → Writes alike es k x → CommittedWrite alike es k x.1.cue x.0
  write_told x w =
      let c = committed_of es x w.0 in
      let i = writes_item (alike k) x.1.act w.1 in
      record {
        commits = c.3;
        item = i.0;
        write = record { act = x.1.act; entry = placed_entry es x c.0; item = i.1 };
        same = i.2;
      }

  told_write : (n p : ℕ) (c : CommittedWrite alike es k n p) → Writes alike es k (p, record { cue = n; act = c.write.act })
  told_write n p c =
      let w = item_writes (alike k) c.write.act c.item c.write.item c.same in
      sets_writes alike es k (p, record { cue = n; act = c.write.act })
      (entry_placed es p (record { cue = n; act = c.write.act }) c.write.entry)
      (and_from (committed es n) (writes (alike k) c.write.act) c.commits w)

  not_zero : (n p : ℕ) → CommittedWrite alike es k n p → 0 < p
  not_zero n zero c = let z = c.write.entry in cc
  not_zero n (suc i) c = omega arith

-- an order of entries that asks of their cues and places alone
module _ {K : Type 0} (R : ℕ × Entry K → ℕ × Entry K → Type 0) (before : (n p m q : ℕ) → Type 0)
    (to : (x y : ℕ × Entry K) → R x y → before x.1.cue x.0 y.1.cue y.0)
    (from : (x y : ℕ × Entry K) → before x.1.cue x.0 y.1.cue y.0 → R x y)
    (apart : Apart R) where
  module _ (P : ℕ × Entry K → Type 0) (Q : (n p : ℕ) → Type 0)
      (told : (x : ℕ × Entry K) → P x → Q x.1.cue x.0)
      (tells : (n p : ℕ) → Q n p → (a : Act K) × P (p, record { cue = n; act = a }))
      (positive : (n p : ℕ) → Q n p → 0 < p) where
    at_place : (p : ℕ) → 0 < p → IsLast before Q p → LastPlace before Q p
    at_place zero h l = absurd (omega arith)
    at_place (suc i) h l = l

    -- the place of the last
    place_told : (a : Option (ℕ × Entry K)) → Last R P a → LastPlace before Q (place_of a)
    place_told None l = λ m q c. let t = tells m q c in l (q, record { cue = m; act = t.0 }) t.1
    place_told (Some s) l =
        at_place s.0 (positive s.1.cue s.0 (told s l.0))
        (record {
          cue = s.1.cue;
          passes = told s l.0;
          last = λ m q c.
              let t = tells m q c in
              let x : ℕ × Entry K = (q, record { cue = m; act = t.0 }) in
              ⊎_elim (λ e. inl (ap (λ (y : ℕ × Entry K). y.0) e)) (λ r. inr (to x s r)) (l.1 x t.1);
        })

    never_both : (m q n p : ℕ) → Q m q → Q n p → before m q n p → before n p m q → ⊥
    never_both m q n p c d h k =
        let t = tells m q c in
        let u = tells n p d in
        let x : ℕ × Entry K = (q, record { cue = m; act = t.0 }) in
        let y : ℕ × Entry K = (p, record { cue = n; act = u.0 }) in
        apart x y (from x y h) (from y x k)

    -- there is one such place
    one_place : (v w : ℕ) → LastPlace before Q v → LastPlace before Q w → v ≡ w
    one_place zero zero f g = refl
    one_place zero (suc w) f g = absurd (f g.cue (suc w) g.passes)
    one_place (suc v) zero f g = absurd (g f.cue (suc v) f.passes)
    one_place (suc v) (suc w) f g =
        ⊎_elim sym
        (λ h. ⊎_elim (λ e. e) (λ k. absurd (never_both g.cue (suc w) f.cue (suc v) g.passes f.passes h k)) (g.last f.cue (suc v) f.passes))
        (f.last g.cue (suc w) g.passes)

    place_is : (a : Option (ℕ × Entry K)) → Last R P a → (p : ℕ) → (place_of a ≡ p) ↔ LastPlace before Q p
    place_is a l p = (λ e. subst (LastPlace before Q) e (place_told a l), λ f. one_place (place_of a) p (place_told a l) f)

  module _ (alike : K → K → Bool) (es : List (Entry K)) (ps : List (ℕ × Entry K))
      (lasts : (test : ℕ × Entry K → Bool) → Last R (λ x. Stands x (committed_list es) × (test x ≡ true)) (last_where test ps))
      (sources : (test : ℕ × Entry K → Bool) (r : ℕ × Entry K) → Stands r (committed_list es) → Last R (λ x. Stands x (committed_list es) × R x r × (test x ≡ true)) (last_where test (front r.0 ps))) where
    places_told : PlacesAreTold alike es before ps
    places_told =
        record {
          last = λ k p.
              place_is (Writes alike es k) (CommittedWrite alike es k) (write_told alike es k)
              (λ n q c. (c.write.act, told_write alike es k n q c))
              (not_zero alike es k)
              (last_where (λ x. writes (alike k) x.1.act) ps) (lasts (λ x. writes (alike k) x.1.act)) p;
          source = λ k m q p c r.
              let y : ℕ × Entry K = (q, record { cue = m; act = r.act }) in
              place_is (λ x. Stands x (committed_list es) × R x y × (writes (alike k) x.1.act ≡ true))
              (λ n s. CommittedWrite alike es k n s × before n s m q)
              (λ x w. (write_told alike es k x (w.0, w.2), to x y w.1))
              (λ n s d.
              let x : ℕ × Entry K = (s, record { cue = n; act = d.0.write.act }) in
              let w = told_write alike es k n s d.0 in
              (d.0.write.act, (w.0, from x y d.1, w.1)))
              (λ n s d. not_zero alike es k n s d.0)
              (last_where (λ x. writes (alike k) x.1.act) (front q ps))
              (sources (λ x. writes (alike k) x.1.act) y (read_stands es m q k c r)) p;
        }

module _ {K : Type 0} (alike : K → K → Bool) (es : List (Entry K)) where
  entered_told : PlacesAreTold alike es EnteredBefore (committed_list es)
  entered_told =
      let ps = committed_list es in
      let rise = committed_rise es in
      places_told Under EnteredBefore (λ x y l. l) (λ x y l. l) under_apart alike es ps
      (λ test. last_is Under test ps rise)
      (λ test r i. source_is Under under_apart test ps rise r i (λ y j e. place_names ps rise y r j i e))

  module _ (o : List ℕ) (h : IsOrder es o) where
    serial_told : PlacesAreTold alike es (SerialBefore o) (serial_list (committed_list es) o)
    serial_told =
        let rise = committed_rise es in
        let once = committed_once es o h in
        let cover = committed_cover es o h in
        places_told (Comes o) (SerialBefore o)
        (λ x y. ⊎_elim (λ p. inl (precedes_comes x.1.cue y.1.cue o p)) inr)
        (λ x y. ⊎_elim (λ c. inl (comes_precedes x.1.cue y.1.cue o c)) inr)
        (comes_apart o once) alike es (serial_list (committed_list es) o)
        (λ test. last_serial (committed_list es) o rise once cover test)
        (λ test r i. source_serial (committed_list es) o rise once cover test r i)

    keeps_places : KeepsView alike es o → KeepsPlaces alike es o
    keeps_places v =
        record {
          sources = λ k m q p c r s.
              let e = v.sources (q, record { cue = m; act = r.act }) k (read_stands es m q k c r) (act_read r.act k r.item) in
              (serial_told.source k m q p c r).0 (sym e ∙ (entered_told.source k m q p c r).1 s);
          lasts = λ k p l. (serial_told.last k p).0 (sym (v.lasts k) ∙ (entered_told.last k p).1 l);
        }

    places_keep : KeepsPlaces alike es o → KeepsView alike es o
    places_keep t =
        record {
          sources = λ x k i e.
              let c = committed_of es x i in
              let r : ReadsAt es x.0 x.1.cue k =
              record { act = x.1.act; entry = placed_entry es x c.0; item = ap item_read e } in
              let p = source_at alike k x.0 (committed_list es) in
              sym ((serial_told.source k x.1.cue x.0 p c.3 r).1
              (t.sources k x.1.cue x.0 p c.3 r ((entered_told.source k x.1.cue x.0 p c.3 r).0 refl)));
          lasts = λ k.
              let p = last_write alike k (committed_list es) in
              sym ((serial_told.last k p).1 (t.lasts k p ((entered_told.last k p).0 refl)));
        }

pub sources_are_told_lem : (K : Type 0) → SourcesAreTold K
sources_are_told_lem K = record { entered = λ alike es. entered_told alike es; serial = λ alike es o h. serial_told alike es o h }

pub view_is_told : (K : Type 0) → ViewIsTold K
view_is_told K =
    record {
      kept = λ alike es o h. (keeps_places alike es o h, places_keep alike es o h);
      shown = λ alike es o h. (keeps_places alike es o h, places_keep alike es o h);
    }
