-- When the committed list and its serial list have the same last write, or the same source of a read. Assumes nothing.
use Rattle.std.proofs.Common.{◌≡◌, ℕ, ◌<◌, Bool, true, ◌↔◌, List, Some, None, Option, sym, refl, ap, ◌∙◌, subst, arith}
use Rattle.lists.specs.Lists.{last_where}
use Rattle.orders.specs.Least.{Stands, Rearranges}
use Rattle.history.specs.declared.Entry.{Entry}
use Rattle.history.specs.Conflicts.{writes}
use Rattle.history.specs.Order.{committed_cues}
use Rattle.history.specs.Views.{committed_list, serial_list, front, place_of, last_write, source_at}
use Rattle.equivalence.proofs.Ordered.{Apart, Ordered, Last, last_same, last_turn, place_names}
use Rattle.equivalence.proofs.Serial.{Under, Comes, under_apart, comes_apart, source_own, source_serial, last_own, last_serial}
use Rattle.equivalence.proofs.CommittedList.{committed_rise, committed_of, committed_once, committed_cover}
use Rattle.equivalence.proofs.Writers.{Writes}

-- a list that rises by place from 1 on
module _ {K : Type 0} (ps : List (ℕ × Entry K)) (rise : Ordered Under ps) (positive : (x : ℕ × Entry K) → Stands x ps → 0 < x.0) where
  abbrev Inside : Option (ℕ × Entry K) → Type 0
  Inside None = Unit {0}
  Inside (Some s) = Stands s ps

  last_inside : (R : ℕ × Entry K → ℕ × Entry K → Type 0) (P : ℕ × Entry K → Type 0) → ((x : ℕ × Entry K) → P x → Stands x ps) → (a : Option (ℕ × Entry K)) → Last R P a → Inside a
  last_inside R P f None l = tt
  last_inside R P f (Some s) l = f s l.0

  same_places : (a b : Option (ℕ × Entry K)) → Inside a → Inside b → place_of a ≡ place_of b → a ≡ b
  same_places None None i j e = refl
  same_places None (Some t) i j e = absurd (omega (arith, positive t j))
  same_places (Some s) None i j e = absurd (omega (arith, positive s i))
  same_places (Some s) (Some t) i j e = ap Some (place_names ps rise s t i j e)

  -- of the last of one kind and the last of another, the places are the same exactly when the first is the last of the other kind
  places_decide : (R S : ℕ × Entry K → ℕ × Entry K → Type 0) (P Q : ℕ × Entry K → Type 0) → Apart R → Apart S → ((x : ℕ × Entry K) → P x → Stands x ps) → ((x : ℕ × Entry K) → Q x → Stands x ps) → (a b c : Option (ℕ × Entry K)) → Last R P a → Last S Q b → Last R P c → (place_of a ≡ place_of b) ↔ Last S Q c
  places_decide R S P Q d e f g a b c l m n = (
    λ p. subst (Last S Q) (sym (same_places a b (last_inside R P f a l) (last_inside S Q g b m) p) ∙ last_same R P d a c l n) m,
    λ q. ap place_of (last_same R P d a c l n ∙ last_same S Q e c b q m),
  )

module _ {K : Type 0} (alike : K → K → Bool) (es : List (Entry K)) (o : List ℕ) (h : Rearranges (committed_cues es) o) (k : K) where
  abbrev put : ℕ × Entry K → Bool
  put x = writes (alike k) x.1.act

  pub lasts_decide : (a : Option (ℕ × Entry K)) → Last Under (Writes alike es k) a → (last_write alike k (committed_list es) ≡ last_write alike k (serial_list (committed_list es) o)) ↔ Last (Comes o) (Writes alike es k) a
  lasts_decide a l =
      let once = committed_once es o h in
      let cover = committed_cover es o h in
      places_decide (committed_list es) (committed_rise es) (λ x m. (committed_of es x m).1) Under (Comes o) (Writes alike es k) (Writes alike es k) under_apart (comes_apart o once) (λ x m. m.0) (λ x m. m.0)
      (last_where put (committed_list es)) (last_where put (serial_list (committed_list es) o)) a
      (last_own (committed_list es) o (committed_rise es) once cover put) (last_serial (committed_list es) o (committed_rise es) once cover put) l

  pub lasts_own : Last Under (Writes alike es k) (last_where put (committed_list es))
  lasts_own = last_own (committed_list es) o (committed_rise es) (committed_once es o h) (committed_cover es o h) put

  module _ (r : ℕ × Entry K) (at : Stands r (committed_list es)) where
    abbrev Seen : ℕ × Entry K → Type 0
    Seen x = Writes alike es k x × Under x r

    abbrev Shown : ℕ × Entry K → Type 0
    Shown x = Writes alike es k x × Comes o x r

    pub sources_own : Last Under Seen (last_where put (front r.0 (committed_list es)))
    sources_own =
        last_turn Under Under (λ x. Stands x (committed_list es) × Under x r × (put x ≡ true)) Seen (λ x m. ((m.0, m.2), m.1)) (λ x m. (m.0.0, m.1, m.0.1)) (λ x y m n l. l)
        (last_where put (front r.0 (committed_list es))) (source_own (committed_list es) o (committed_rise es) (committed_once es o h) (committed_cover es o h) put r at)

    sources_serial : Last (Comes o) Shown (last_where put (front r.0 (serial_list (committed_list es) o)))
    sources_serial =
        last_turn (Comes o) (Comes o) (λ x. Stands x (committed_list es) × Comes o x r × (put x ≡ true)) Shown (λ x m. ((m.0, m.2), m.1)) (λ x m. (m.0.0, m.1, m.0.1)) (λ x y m n l. l)
        (last_where put (front r.0 (serial_list (committed_list es) o))) (source_serial (committed_list es) o (committed_rise es) (committed_once es o h) (committed_cover es o h) put r at)

    pub sources_decide : (a : Option (ℕ × Entry K)) → Last Under Seen a → (source_at alike k r.0 (committed_list es) ≡ source_at alike k r.0 (serial_list (committed_list es) o)) ↔ Last (Comes o) Shown a
    sources_decide a l =
        places_decide (committed_list es) (committed_rise es) (λ x m. (committed_of es x m).1) Under (Comes o) Seen Shown under_apart (comes_apart o (committed_once es o h)) (λ x m. m.0.0) (λ x m. m.0.0)
        (last_where put (front r.0 (committed_list es))) (last_where put (front r.0 (serial_list (committed_list es) o))) a sources_own sources_serial l
