-- An order of the committed cues is view-equivalent exactly when it keeps the constraints. Assumes nothing.
use Rattle.std.proofs.Common.{◌≡◌, ℕ, Bool, true, false, not, ◌&&◌, ◌||◌, eqb, ◌⊎◌, ◌↔◌, List, [], Some, Option, sym, refl, subst, inl, inr}
use Rattle.std.specs.Option.{option_map}
use Rattle.std.proofs.lemmas.Bool.{both_ways, false≢true, and_from, and_parts, eq-eqb, eqb-true, ne_eqb, not_from_false, or_cases, or_left, or_right}
use Rattle.lists.specs.Lists.{last_where, placed}
use Rattle.orders.specs.Least.{Stands, Rearranges}
use Rattle.orders.specs.Orders.{precedes}
use Rattle.history.specs.declared.Act.{Act}
use Rattle.history.specs.declared.Act.TheVariants.{Read, Write}
use Rattle.history.specs.declared.Entry.{Entry}
use Rattle.history.specs.Conflicts.{reads, writes, touches}
use Rattle.history.specs.Entries.{committed}
use Rattle.history.specs.Order.{committed_cues}
use Rattle.history.specs.Views.{counts, committed_list, serial_list, front, last_write, source_at, rereads, leaves, view_equivalent}
use Rattle.equivalence.specs.Laws.{Sameness}
use Rattle.equivalence.specs.Constraints.{last_writer, read_hides, read_ahead, read_apart, write_ahead, hides, ahead, apart, is_hidden, Allows, ViewIsAllowed}
use Rattle.equivalence.proofs.Acts.{reads_of, reads_from_lem, writes_of, writes_from, writes_touch, read_touches, reads_kept, touches_kept, kept_read, kept_write}
use Rattle.equivalence.proofs.Ordered.{every_of, every_from, kept_from, Last}
use Rattle.equivalence.proofs.Serial.{Under, under_either}
use Rattle.equivalence.proofs.CommittedList.{committed_rise, committed_of, committed_once, committed_cover}
use Rattle.equivalence.proofs.Cuts.{Cut, amid_cut, cut_amid, cut_stands}
use Rattle.equivalence.proofs.Writers.{Writes, earlier_tells, later_tells, earlier_last, later_last, later_found}
use Rattle.equivalence.proofs.Places.{sources_own, sources_decide}
use Rattle.equivalence.proofs.Reading.{Keeps, source_keeps, source_kept}
use Rattle.equivalence.proofs.LastWrites.{Follows, write_keeps, writes_kept}

no_true : (b : Bool) → (b ≡ true → ⊥) → b ≡ false
no_true true h = absurd (h refl)
no_true false h = refl

module _ {K : Type 0} (alike : K → K → Bool) (same : Sameness alike) (es : List (Entry K)) (o : List ℕ) (h : Rearranges (committed_cues es) o) where
  -- an entry of a committed cue that reads or writes is in the committed list
  counted : (p : ℕ × Entry K) → Stands p (placed 1 es) → committed es p.1.cue ≡ true → touches (λ k. true) p.1.act ≡ true → Stands p (committed_list es)
  counted p i c t = kept_from (λ q. counts es q.1) (placed 1 es) p i (and_from (committed es p.1.cue) (touches (λ k. true) p.1.act) c t)

  module _ (p : ℕ × Entry K) (i : Stands p (committed_list es)) (before after : List (Entry K)) (cut : Cut 1 es p before after) (k : K) where
    -- a read of k is none of its writes
    side : p.1.act ≡ Read k → (x : ℕ × Entry K) → Writes alike es k x → Under x p ⊎ Under p x
    side e x m =
        elim (under_either (committed_list es) (committed_rise es) x p m.0 i) [
          | inl q ↦ absurd (false≢true (subst (λ (a : Act K). writes (alike k) a ≡ true) e (subst (λ (v : ℕ × Entry K). writes (alike k) v.1.act ≡ true) q m.1)))
          | inr u ↦ u
        ]

    read_decides : p.1.act ≡ Read k → (source_at alike k p.0 (committed_list es) ≡ source_at alike k p.0 (serial_list (committed_list es) o)) ↔ Keeps alike (committed es) o k p.1.cue before after (last_writer alike (committed es) k before)
    read_decides e =
        let a = last_where (λ (x : ℕ × Entry K). writes (alike k) x.1.act) (front p.0 (committed_list es)) in
        let l : Last Under (λ x. Writes alike es k x × Under x p) a = sources_own alike es o h k p i in
        let w : last_writer alike (committed es) k before ≡ option_map (λ x. x.1.cue) a = earlier_last alike es k p before after cut a l in
        let d = sources_decide alike es o h k p i a l in
        let once = committed_once es o h in
        let cover : (x : ℕ × Entry K) → Writes alike es k x → Stands x.1.cue o = λ x m. committed_cover es o h x m.0 in
        let here = committed_cover es o h p i in
        let early = earlier_tells alike es k p before after cut in
        let late = later_tells alike es k p before after cut in (
          λ s. subst (Keeps alike (committed es) o k p.1.cue before after) (sym w) (source_keeps alike (committed es) o once k (Writes alike es k) p before after cover here (side e) early late a l (d.0 s)),
          λ t. d.1 (source_kept alike (committed es) o once k (Writes alike es k) p before after cover here (side e) early late a l (subst (Keeps alike (committed es) o k p.1.cue before after) w t)),
        )

  -- what an entry p asks, by its item
  module _ (p : ℕ × Entry K) (before after : List (Entry K)) where
    abbrev hiding : K → Bool
    hiding k = read_hides alike (committed es) k p.1.cue before after (last_writer alike (committed es) k before)

    abbrev reading : ℕ → ℕ → K → Bool
    reading x y k = read_ahead alike (committed es) k p.1.cue after (last_writer alike (committed es) k before) x y

    abbrev writing : ℕ → ℕ → K → Bool
    writing x y k = write_ahead alike (committed es) p.1.cue (last_writer alike (committed es) k after) x y

    abbrev parting : ℕ → ℕ → ℕ → K → Bool
    parting j q n k = read_apart alike (committed es) k p.1.cue before after (last_writer alike (committed es) k before) j q n

  module _ (v : view_equivalent alike es o ≡ true) where
    viewed : (p : ℕ × Entry K) → Stands p (committed_list es) → (not (rereads alike (committed_list es) (serial_list (committed_list es) o) p) ≡ true) × (not (leaves alike (committed_list es) (serial_list (committed_list es) o) p) ≡ true)
    viewed p i =
        and_parts (not (rereads alike (committed_list es) (serial_list (committed_list es) o) p)) (not (leaves alike (committed_list es) (serial_list (committed_list es) o) p))
        (every_of (λ p. not (rereads alike (committed_list es) (serial_list (committed_list es) o) p) && not (leaves alike (committed_list es) (serial_list (committed_list es) o) p)) (committed_list es) v p i)

    viewed_source : (p : ℕ × Entry K) (k : K) → Stands p (committed_list es) → p.1.act ≡ Read k → source_at alike k p.0 (committed_list es) ≡ source_at alike k p.0 (serial_list (committed_list es) o)
    viewed_source p k i e =
        eqb-true (source_at alike k p.0 (committed_list es)) (source_at alike k p.0 (serial_list (committed_list es) o))
        (kept_read (λ k. eqb (source_at alike k p.0 (committed_list es)) (source_at alike k p.0 (serial_list (committed_list es) o))) p.1.act k (viewed p i).0 e)

    viewed_last : (p : ℕ × Entry K) (k : K) → Stands p (committed_list es) → p.1.act ≡ Write k → last_write alike k (committed_list es) ≡ last_write alike k (serial_list (committed_list es) o)
    viewed_last p k i e =
        eqb-true (last_write alike k (committed_list es)) (last_write alike k (serial_list (committed_list es) o))
        (kept_write (λ k. eqb (last_write alike k (committed_list es)) (last_write alike k (serial_list (committed_list es) o))) p.1.act k (viewed p i).1 e)

    module _ (p : ℕ × Entry K) (before after : List (Entry K)) (cut : Cut 1 es p before after) (c : committed es p.1.cue ≡ true) where
      -- the item that is read, and what is kept of it
      read_asked : (test : K → Bool) → reads test p.1.act ≡ true → (k : K) × (test k ≡ true) × Keeps alike (committed es) o k p.1.cue before after (last_writer alike (committed es) k before)
      read_asked test t =
          let r = reads_of test p.1.act t in
          let i = counted p (cut_stands 1 es p before after cut) c (read_touches p.1.act r.0 r.1) in
          (r.0, r.2, (read_decides p i before after cut r.0 r.1).0 (viewed_source p r.0 i r.1))

      write_asked : (x y : ℕ) → writes (writing p before after x y) p.1.act ≡ true → precedes x y o ≡ true
      write_asked x y t =
          let r = writes_of (writing p before after x y) p.1.act t in
          let k = r.0 in
          let i = counted p (cut_stands 1 es p before after cut) c (writes_touch (writing p before after x y) p.1.act t) in
          let f = later_found alike es k p before after cut in
          write_keeps alike same es o h k p i r.1 (viewed_last p k i r.1) f.0 f.1 x y
          (subst (λ (a : Option ℕ). write_ahead alike (committed es) p.1.cue a x y ≡ true) f.2 r.2)

    allows : Allows alike es o
    allows = record {
      shown = no_true (is_hidden alike es) (λ t.
          let r = amid_cut (hides alike (committed es)) 1 [] es t in
          let test = hiding r.0 r.1 r.2 in
          let b = and_parts (committed es r.0.1.cue) (reads test r.0.1.act) r.4 in
          let a = read_asked r.0 r.1 r.2 r.3 b.0 test b.1 in
          a.2.shown a.1);
      ahead = λ x y t.
          let r = amid_cut (ahead alike (committed es) x y) 1 [] es t in
          let test = reading r.0 r.1 r.2 x y in
          let other = writes (writing r.0 r.1 r.2 x y) r.0.1.act in
          let b = and_parts (committed es r.0.1.cue) (reads test r.0.1.act || other) r.4 in
          elim (or_cases (reads test r.0.1.act) other b.1) [
            | inl s ↦ let a = read_asked r.0 r.1 r.2 r.3 b.0 test s in a.2.ahead x y a.1
            | inr s ↦ write_asked r.0 r.1 r.2 r.3 b.0 x y s
          ];
      apart = λ j q n t.
          let r = amid_cut (apart alike (committed es) j q n) 1 [] es t in
          let test = parting r.0 r.1 r.2 j q n in
          let b = and_parts (committed es r.0.1.cue) (reads test r.0.1.act) r.4 in
          let a = read_asked r.0 r.1 r.2 r.3 b.0 test b.1 in
          a.2.apart j q n a.1;
    }

  module _ (a : Allows alike es o) where
    source_stays : (p : ℕ × Entry K) → Stands p (committed_list es) → (k : K) → p.1.act ≡ Read k → source_at alike k p.0 (committed_list es) ≡ source_at alike k p.0 (serial_list (committed_list es) o)
    source_stays p i k e =
        let c = committed_of es p i in
        let r = cut_amid 1 es p c.0 in
        let there : (test : K → Bool) → test k ≡ true → (committed es p.1.cue && reads test p.1.act) ≡ true =
        λ test t. and_from (committed es p.1.cue) (reads test p.1.act) c.3 (reads_from_lem test p.1.act k e t) in
        (read_decides p i r.0 r.1 r.2 k e).1 (record {
          shown = λ t. both_ways (is_hidden alike es) a.shown (r.3 (hides alike (committed es)) [] (there (hiding p r.0 r.1) t));
          ahead = λ x y t. a.ahead x y (r.3 (ahead alike (committed es) x y) []
              (and_from (committed es p.1.cue) (reads (reading p r.0 r.1 x y) p.1.act || writes (writing p r.0 r.1 x y) p.1.act) c.3
              (or_left (reads (reading p r.0 r.1 x y) p.1.act) (writes (writing p r.0 r.1 x y) p.1.act) (reads_from_lem (reading p r.0 r.1 x y) p.1.act k e t))));
          apart = λ j q n t. a.apart j q n (r.3 (apart alike (committed es) j q n) [] (there (parting p r.0 r.1 j q n) t));
        })

    follows : Follows alike es o
    follows k w i e s l d =
        let c = committed_of es w i in
        let r = cut_amid 1 es w c.0 in
        let x = w.1.cue in
        let y = s.1.cue in
        let asks : writing w r.0 r.1 x y k ≡ true =
        subst (λ (z : Option ℕ). write_ahead alike (committed es) x z x y ≡ true) (sym (later_last alike es k w r.0 r.1 r.2 (Some s) l))
        (and_from (eqb x x) (eqb y y && not (eqb y x)) (eq-eqb x x refl) (and_from (eqb y y) (not (eqb y x)) (eq-eqb y y refl) (not_from_false (eqb y x) (ne_eqb y x d)))) in
        a.ahead x y (r.3 (ahead alike (committed es) x y) []
        (and_from (committed es x) (reads (reading w r.0 r.1 x y) w.1.act || writes (writing w r.0 r.1 x y) w.1.act) c.3
        (or_right (reads (reading w r.0 r.1 x y) w.1.act) (writes (writing w r.0 r.1 x y) w.1.act) (writes_from (writing w r.0 r.1 x y) w.1.act k e asks))))

    views : view_equivalent alike es o ≡ true
    views =
        every_from (λ p. not (rereads alike (committed_list es) (serial_list (committed_list es) o) p) && not (leaves alike (committed_list es) (serial_list (committed_list es) o) p)) (committed_list es)
        (λ p i. and_from (not (rereads alike (committed_list es) (serial_list (committed_list es) o) p)) (not (leaves alike (committed_list es) (serial_list (committed_list es) o) p))
        (reads_kept (λ k. eqb (source_at alike k p.0 (committed_list es)) (source_at alike k p.0 (serial_list (committed_list es) o))) p.1.act
        (λ k e. eq-eqb (source_at alike k p.0 (committed_list es)) (source_at alike k p.0 (serial_list (committed_list es) o)) (source_stays p i k e)))
        (touches_kept (λ k. eqb (last_write alike k (committed_list es)) (last_write alike k (serial_list (committed_list es) o))) p.1.act
        (λ k. eq-eqb (last_write alike k (committed_list es)) (last_write alike k (serial_list (committed_list es) o)) (writes_kept alike same es o h follows k))))

pub view_is_allowed_lem : (K : Type 0) → ViewIsAllowed K
view_is_allowed_lem K alike same es o h = (allows alike same es o h, views alike same es o h)
