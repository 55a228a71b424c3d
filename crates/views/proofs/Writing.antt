-- The cues that write an item, met one entry after another. Assumes nothing.
use Rattle.std.proofs.Common.{◌≡◌, ℕ, ◌+◌, ◌-◌, ◌<◌, ◌≤◌, Bool, true, false, cond, ◌&&◌, ◌||◌, eqb, List, [], ◌∷◌, ◌++◌, length, get_or, take, set, replicate, Some, None, Option, sym, refl, ap, ◌∙◌, inl, inr, arith}
use mathlib.Core.Bool.{and-true, or-false}
use Rattle.std.specs.Option.{option_map}
use Rattle.std.proofs.lemmas.List.{get_or-replicate, get_or-set_same, get_or-set_other, length-replicate, length-set, take_all, take_more}
use Rattle.std.proofs.lemmas.Bool.{and_from, and_left, and_parts, and_right, cases_Bool, cases_eq, eq-eqb, eqb-true, ne_eqb, or_right}
use Rattle.lists.specs.Lists.{some, or_else, last_where}
use Rattle.lists.proofs.Last.{last_passes, last_push}
use Rattle.lists.proofs.Some.{some_append}
use Rattle.lists.proofs.Together.{some_one}
use Rattle.history.specs.declared.Entry.{Entry}
use Rattle.history.specs.Conflicts.{writes}
use Rattle.history.specs.Entries.{is_cue}
use Rattle.history.specs.Marked.{marked}
use Rattle.history.proofs.Committed.{cue_low, cue_high}
use Rattle.history.proofs.Marks.{marked_cue}
use Rattle.equivalence.specs.Constraints.{sets, writer, last_writer}

pub marked_none : (n : ℕ) → marked (replicate 64 false) n ≡ false
marked_none n =
    elim (cases_Bool (is_cue n)) [
      | inl cue ↦
          and_right (is_cue n) (get_or (replicate 64 false) (n - 1) false)
          (get_or-replicate 64 (n - 1) false false (omega (arith, cue_low n cue, cue_high n cue)))
      | inr not-cue ↦ and_left (is_cue n) (get_or (replicate 64 false) (n - 1) false) not-cue
    ]

-- a table in which one more cue is marked
pub marked_set : (found : List Bool) (m n : ℕ) → length found ≡ 64 → is_cue m ≡ true → marked (set found (m - 1) true) n ≡ (marked found n || eqb m n)
marked_set found m n long cue =
    let found' = set found (m - 1) true in
    elim (cases_eq m n) [
      | inl e ↦
          let cn : is_cue n ≡ true = sym (ap is_cue e) ∙ cue in
          let cell : get_or found' (n - 1) false ≡ true =
          sym (ap (λ (k : ℕ). get_or found' (k - 1) false) e)
          ∙ get_or-set_same found (m - 1) true false (omega (arith, cue_low m cue, cue_high m cue)) in
          and_from (is_cue n) (get_or found' (n - 1) false) cn cell
          ∙ sym (or_right (marked found n) (eqb m n) (eq-eqb m n e))
      | inr ne ↦
          let same : marked found' n ≡ marked found n =
          elim (cases_Bool (is_cue n)) [
            | inl cn ↦
                ap (λ (b : Bool). is_cue n && b)
                (get_or-set_other found (m - 1) (n - 1) true false (λ z. ne (omega (arith, cue_low m cue, cue_low n cn))))
            | inr no_cue ↦ and_left (is_cue n) (get_or found' (n - 1) false) no_cue ∙ sym (and_left (is_cue n) (get_or found (n - 1) false) no_cue)
          ] in
          same ∙ sym (or-false (marked found n)) ∙ ap (λ (b : Bool). marked found n || b) (sym (ne_eqb m n ne))
    ]

-- such a write is of a cue
pub sets_cue : {K : Type 0} (alike : K → K → Bool) (cues : List Bool) (k : K) (w : Entry K) → true ≡ sets alike (marked cues) k w → is_cue w.cue ≡ true
sets_cue alike cues k w h = marked_cue cues w.cue (and_parts (marked cues w.cue) (writes (alike k) w.act) (sym h)).0

module _ {K : Type 0} (alike : K → K → Bool) (c : ℕ → Bool) (k : K) where
  -- a writer is one of the cues asked for
  pub writer_in : (ws : List (Entry K)) (n : ℕ) → writer alike c k ws n ≡ true → c n ≡ true
  writer_in ws n h =
      let w = some_one (λ (e : Entry K). eqb e.cue n && sets alike c k e) ws h in
      let parts = and_parts (eqb w.0.cue n) (sets alike c k w.0) w.1 in
      sym (ap c (eqb-true w.0.cue n parts.0)) ∙ (and_parts (c w.0.cue) (writes (alike k) w.0.act) parts.1).0

  cue_of : (o : Option (Entry K)) (s : ℕ) → option_map (λ w. w.cue) o ≡ Some s → (w : Entry K) × (o ≡ Some w) × (w.cue ≡ s)
  cue_of None s h = let z : ◌≡◌ {A = ℕ} 0 1 = cc in absurd (omega arith)
  cue_of (Some w) s h = (w, refl, cc)

  pub last_in : (ws : List (Entry K)) (s : ℕ) → last_writer alike c k ws ≡ Some s → c s ≡ true
  last_in ws s h =
      let w = cue_of (last_where (sets alike c k) ws) s h in
      sym (ap c w.2) ∙ (and_parts (c w.0.cue) (writes (alike k) w.0.act) (last_passes (sets alike c k) ws w.0 w.1)).0

  module _ (ws : List (Entry K)) (i : ℕ) (w : Entry K) (h : i < length ws) (e : w ≡ get_or ws i w) where
    front : take (i + 1) ws ≡ take i ws ++ w ∷ []
    front = take_more ws i w h ∙ ap (λ (x : Entry K). take i ws ++ x ∷ []) (sym e)

    writer_more : (n : ℕ) → writer alike c k (take (i + 1) ws) n ≡ (writer alike c k (take i ws) n || (eqb w.cue n && sets alike c k w))
    writer_more n =
        let test : Entry K → Bool = λ x. eqb x.cue n && sets alike c k x in
        ap (some test) front ∙ some_append test (take i ws) (w ∷ []) ∙ ap (λ (b : Bool). some test (take i ws) || b) (or-false (test w))

    last_more : last_writer alike c k (take (i + 1) ws) ≡ option_map (λ (x : Entry K). x.cue) (or_else (cond (sets alike c k w) (Some w) None) (last_where (sets alike c k) (take i ws)))
    last_more = ap (λ (xs : List (Entry K)). last_writer alike c k xs) front ∙ ap (option_map (λ (x : Entry K). x.cue)) (last_push (sets alike c k) (take i ws) w)

  -- what the loop has found among the first i entries
  pub record Found (ws : List (Entry K)) (i : ℕ) (found : List Bool) (latest : Option ℕ) : Type 0 where
    pub long : length found ≡ 64
    pub marks : (n : ℕ) → marked found n ≡ writer alike c k (take i ws) n
    pub last : latest ≡ last_writer alike c k (take i ws)

  pub found_none : (ws : List (Entry K)) → Found ws 0 (replicate 64 false) None
  found_none ws = record { long = length-replicate 64 false; marks = marked_none; last = refl }

  module _ (ws : List (Entry K)) (i : ℕ) (found : List Bool) (latest : Option ℕ) (had : Found ws i found latest) (w : Entry K) (h : i < length ws) (e : w ≡ get_or ws i w) where
    pub found_more : is_cue w.cue ≡ true → sets alike c k w ≡ true → Found ws (i + 1) (set found (w.cue - 1) true) (Some w.cue)
    found_more cue passes =
        record {
          long = length-set found (w.cue - 1) true ∙ had.long;
          marks = λ n.
              let same : (eqb w.cue n && sets alike c k w) ≡ eqb w.cue n = ap (λ (b : Bool). eqb w.cue n && b) passes ∙ and-true (eqb w.cue n) in
              marked_set found w.cue n had.long cue
              ∙ ap (λ (b : Bool). b || eqb w.cue n) (had.marks n)
              ∙ ap (λ (b : Bool). writer alike c k (take i ws) n || b) (sym same)
              ∙ sym (writer_more ws i w h e n);
          last = sym (last_more ws i w h e ∙ ap (λ (b : Bool). option_map (λ (x : Entry K). x.cue) (or_else (cond b (Some w) None) (last_where (sets alike c k) (take i ws)))) passes);
        }

    pub found_past : sets alike c k w ≡ false → Found ws (i + 1) found latest
    found_past fails =
        record {
          long = had.long;
          marks = λ n.
              had.marks n
              ∙ sym (or-false (writer alike c k (take i ws) n))
              ∙ ap (λ (b : Bool). writer alike c k (take i ws) n || b) (sym (and_right (eqb w.cue n) (sets alike c k w) fails))
              ∙ sym (writer_more ws i w h e n);
          last = had.last ∙ sym (last_more ws i w h e ∙ ap (λ (b : Bool). option_map (λ (x : Entry K). x.cue) (or_else (cond b (Some w) None) (last_where (sets alike c k) (take i ws)))) fails);
        }

  module _ (ws : List (Entry K)) (i : ℕ) (found : List Bool) (latest : Option ℕ) (had : Found ws i found latest) (end : length ws ≤ i) where
    pub found_marks : (n : ℕ) → marked found n ≡ writer alike c k ws n
    found_marks n = had.marks n ∙ ap (λ (xs : List (Entry K)). writer alike c k xs n) (take_all i ws end)

    pub found_last : latest ≡ last_writer alike c k ws
    found_last = had.last ∙ ap (λ (xs : List (Entry K)). last_writer alike c k xs) (take_all i ws end)
