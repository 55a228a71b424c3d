-- The steps of the loops that draw the graph. Assumes nothing.
use Rattle.std.proofs.Common.{◌≡◌, ℕ, ◌+◌, ◌-◌, ◌<◌, Bool, true, false, ◌&&◌, ◌||◌, eqb, List, [], length, get_or, drop, set, replicate, sym, refl, ap, ◌∙◌, inl, inr, arith}
use mathlib.Core.Bool.{or_assoc}
use Rattle.std.proofs.lemmas.List.{get_or-replicate, get_or-set_same, get_or-set_other}
use Rattle.std.proofs.lemmas.Bool.{and_from, and_left, and_right, cases_Bool, cases_eq, eq-eqb, ne_eqb, or_left, or_right}
use Rattle.lists.specs.Lists.{some, some_pair}
use Rattle.lists.proofs.Drops.{drop_read}
use Rattle.lists.proofs.Together.{some_none}
use Rattle.history.specs.declared.Entry.{Entry}
use Rattle.history.specs.Conflicts.{conflict}
use Rattle.history.specs.Entries.{is_cue}
use Rattle.history.specs.Order.{joins, arrow}
use Rattle.history.specs.Marked.{marked}
use Rattle.history.proofs.Committed.{cue_low, cue_high}
use Rattle.history.proofs.Marks.{marked_cue}
use Rattle.serial.specs.Drawn.{drawn, Adds}

-- a cue in a table where another is marked
marked_same : (row : List Bool) (n : ℕ) → length row ≡ 64 → is_cue n ≡ true → marked (set row (n - 1) true) n ≡ true
marked_same row n long c =
    and_from (is_cue n) (get_or (set row (n - 1) true) (n - 1) false) c (get_or-set_same row (n - 1) true false (omega (arith, cue_low n c, cue_high n c)))

marked_other : (row : List Bool) (n j : ℕ) → is_cue n ≡ true → (n ≡ j → ⊥) → marked (set row (n - 1) true) j ≡ marked row j
marked_other row n j c ne =
    elim (cases_Bool (is_cue j)) [
      | inl cj ↦ ap (λ (b : Bool). is_cue j && b) (get_or-set_other row (n - 1) (j - 1) true false (λ e. ne (omega (arith, cue_low n c, cue_low j cj))))
      | inr nj ↦ and_left (is_cue j) _ nj ∙ sym (and_left (is_cue j) _ nj)
    ]

-- nothing is drawn at first
pub drawn_none : (i j : ℕ) → drawn (replicate 64 (replicate 64 false)) i j ≡ false
drawn_none i j =
    elim (cases_Bool (is_cue i)) [
      | inl ci ↦ elim (cases_Bool (is_cue j)) [
        | inl cj ↦
            let row : get_or (replicate 64 (replicate 64 false)) (i - 1) [] ≡ replicate 64 false = get_or-replicate 64 (i - 1) (replicate 64 false) [] (omega (arith, cue_low i ci, cue_high i ci)) in
            and_right (is_cue i) _ (and_right (is_cue j) _ (ap (λ (r : List Bool). get_or r (j - 1) false) row ∙ get_or-replicate 64 (j - 1) false false (omega (arith, cue_low j cj, cue_high j cj))))
        | inr nj ↦ and_right (is_cue i) _ (and_left (is_cue j) _ nj)
      ]
      | inr ni ↦ and_left (is_cue i) _ ni
    ]

module _ {K : Type 0} (alike : K → K → Bool) (cues : List Bool) where
  -- one turn of the loop that draws from x, at the entry y
  abbrev pub Turn : (x y : Entry K) (row row' : List Bool) → Type 0
  Turn x y row row' = (j : ℕ) (s : Bool) → (marked row' j || (marked cues j && s)) ≡ (marked row j || (marked cues j && (joins alike x.cue j x y || s)))

  module _ (x y : Entry K) (row : List Bool) where
    turn_not : (j : ℕ) (s : Bool) → joins alike x.cue j x y ≡ false → (marked row j || (marked cues j && s)) ≡ (marked row j || (marked cues j && (joins alike x.cue j x y || s)))
    turn_not j s e = ap (λ (b : Bool). marked row j || (marked cues j && (b || s))) (sym e)

    -- of a cue that is not marked
    turn_unmarked : (j : ℕ) (s : Bool) → marked cues j ≡ false → (marked row j || (marked cues j && s)) ≡ (marked row j || (marked cues j && (joins alike x.cue j x y || s)))
    turn_unmarked j s u =
        ap (λ (b : Bool). marked row j || b) (and_left (marked cues j) s u ∙ sym (and_left (marked cues j) (joins alike x.cue j x y || s) u))

    other_later : (j : ℕ) → (y.cue ≡ j → ⊥) → joins alike x.cue j x y ≡ false
    other_later j ne = and_right (eqb x.cue x.cue) (eqb y.cue j && conflict alike x y) (and_left (eqb y.cue j) (conflict alike x y) (ne_eqb y.cue j ne))

    pub turn_other : false ≡ marked cues y.cue → Turn x y row row
    turn_other n j s =
        elim (cases_eq y.cue j) [
          | inl e ↦ turn_unmarked j s (ap (marked cues) (sym e) ∙ sym n)
          | inr ne ↦ turn_not j s (other_later j ne)
        ]

    pub turn_none : false ≡ conflict alike x y → Turn x y row row
    turn_none n j s = turn_not j s (and_right (eqb x.cue x.cue) (eqb y.cue j && conflict alike x y) (and_right (eqb y.cue j) (conflict alike x y) (sym n)))

    pub turn_known : true ≡ marked row y.cue → Turn x y row row
    turn_known known j s =
        elim (cases_eq y.cue j) [
          | inl e ↦
              let d : marked row j ≡ true = ap (marked row) (sym e) ∙ sym known in
              or_left (marked row j) (marked cues j && s) d ∙ sym (or_left (marked row j) (marked cues j && (joins alike x.cue j x y || s)) d)
          | inr ne ↦ turn_not j s (other_later j ne)
        ]

    pub turn_drawn : length row ≡ 64 → true ≡ marked cues y.cue → true ≡ conflict alike x y → Turn x y row (set row (y.cue - 1) true)
    turn_drawn long my clash j s =
        let row' = set row (y.cue - 1) true in
        let cy : is_cue y.cue ≡ true = marked_cue cues y.cue (sym my) in
        elim (cases_eq y.cue j) [
          | inl e ↦
              let d : marked row' j ≡ true = ap (marked row') (sym e) ∙ marked_same row y.cue long cy in
              let mj : marked cues j ≡ true = ap (marked cues) (sym e) ∙ sym my in
              let t : joins alike x.cue j x y ≡ true =
              and_from (eqb x.cue x.cue) (eqb y.cue j && conflict alike x y) (eq-eqb x.cue x.cue refl) (and_from (eqb y.cue j) (conflict alike x y) (eq-eqb y.cue j e) (sym clash)) in
              or_left (marked row' j) (marked cues j && s) d
              ∙ sym (or_right (marked row j) (marked cues j && (joins alike x.cue j x y || s)) (and_from (marked cues j) (joins alike x.cue j x y || s) mj (or_left (joins alike x.cue j x y) s t)))
          | inr ne ↦ ap (λ (b : Bool). b || (marked cues j && s)) (marked_other row y.cue j cy ne) ∙ turn_not j s (other_later j ne)
        ]

  -- what is drawn, with what is still to be drawn from x, comes to the same as at the start
  abbrev pub Drawing : (x : Entry K) (later : List (Entry K)) (q : ℕ) (start row : List Bool) → Type 0
  Drawing x later q start row = (j : ℕ) → (marked row j || (marked cues j && some (joins alike x.cue j x) (drop q later))) ≡ (marked start j || (marked cues j && some (joins alike x.cue j x) later))

  pub drawing_more : (x y : Entry K) (later : List (Entry K)) (q : ℕ) (start row row' : List Bool) → q < length later → y ≡ get_or later q y → Turn x y row row' → Drawing x later q start row → Drawing x later (q + 1) start row'
  drawing_more x y later q start row row' h e turn before j =
      turn j (some (joins alike x.cue j x) (drop (q + 1) later))
      ∙ ap (λ (ys : List (Entry K)). marked row j || (marked cues j && some (joins alike x.cue j x) ys)) (sym (drop_read later q y h e))
      ∙ before j

or_none : (b : Bool) → (b || false) ≡ b
or_none true = refl
or_none false = refl

and_or : (a b s t : Bool) → ((a && (b && s)) || (a && (b && t))) ≡ (a && (b && (s || t)))
and_or true true s t = refl
and_or true false s t = refl
and_or false b s t = refl

module _ {K : Type 0} (alike : K → K → Bool) (cues : List Bool) (es : List (Entry K)) where
  pub drawing_all : (x : Entry K) (q : ℕ) (start row : List Bool) → drop q es ≡ [] → Drawing alike cues x es q start row → Adds alike cues start row x es
  drawing_all x q start row e all j =
      let test = joins alike x.cue j x in
      let none : (marked cues j && some test (drop q es)) ≡ false = and_right (marked cues j) (some test (drop q es)) (ap (some test) e) in
      sym (or_none (marked row j)) ∙ ap (λ (b : Bool). marked row j || b) (sym none) ∙ all j

  -- both are marked, and it holds
  abbrev pub between : (i j : ℕ) → Bool → Bool
  between i j holds = marked cues i && (marked cues j && holds)

  -- the graph has the arrows of the pairs whose earlier entry has come
  abbrev pub Drew : (p : ℕ) (edges : List (List Bool)) → Type 0
  Drew p edges = (i j : ℕ) → (drawn edges i j || between i j (some_pair (joins alike i j) (drop p es))) ≡ between i j (arrow alike es i j)

  between_none : (i j : ℕ) (holds : Bool) → holds ≡ false → between i j holds ≡ false
  between_none i j holds n = and_right (marked cues i) (marked cues j && holds) (and_right (marked cues j) holds n)

  module _ (p : ℕ) (edges : List (List Bool)) (before : Drew p edges) (x : Entry K) (h : p < length es) (e : x ≡ get_or es p x) where
    here : (i j : ℕ) → (drawn edges i j || between i j (some (joins alike i j x) (drop (p + 1) es) || some_pair (joins alike i j) (drop (p + 1) es))) ≡ between i j (arrow alike es i j)
    here i j = ap (λ (ys : List (Entry K)). drawn edges i j || between i j (some_pair (joins alike i j) ys)) (sym (drop_read es p x h e)) ∙ before i j

    -- x joins only its own cue to others
    other_earlier : (i j : ℕ) (ys : List (Entry K)) → (x.cue ≡ i → ⊥) → some (joins alike i j x) ys ≡ false
    other_earlier i j ys ne = some_none (joins alike i j x) ys (λ y. and_left (eqb x.cue i) (eqb y.cue j && conflict alike x y) (ne_eqb x.cue i ne))

    pub drew_past : false ≡ marked cues x.cue → Drew (p + 1) edges
    drew_past n i j =
        let rest = some_pair (joins alike i j) (drop (p + 1) es) in
        let first = some (joins alike i j x) (drop (p + 1) es) in
        let same : between i j rest ≡ between i j (first || rest) =
        elim (cases_eq x.cue i) [
          | inl is ↦
              let u : marked cues i ≡ false = ap (marked cues) (sym is) ∙ sym n in
              and_left (marked cues i) (marked cues j && rest) u ∙ sym (and_left (marked cues i) (marked cues j && (first || rest)) u)
          | inr ne ↦ ap (λ (b : Bool). between i j (b || rest)) (sym (other_earlier i j (drop (p + 1) es) ne))
        ] in
        ap (λ (b : Bool). drawn edges i j || b) same ∙ here i j

    module _ (long : length edges ≡ 64) (mx : true ≡ marked cues x.cue) (row' : List Bool) (adds : Adds alike cues (get_or edges (x.cue - 1) []) row' x (drop (p + 1) es)) where
      cx : is_cue x.cue ≡ true
      cx = marked_cue cues x.cue (sym mx)

      -- the row of another cue is left as it was
      other_row : (i j : ℕ) → (x.cue ≡ i → ⊥) → drawn (set edges (x.cue - 1) row') i j ≡ drawn edges i j
      other_row i j ne =
          elim (cases_Bool (is_cue i)) [
            | inl ci ↦ ap (λ (r : List Bool). is_cue i && marked r j) (get_or-set_other edges (x.cue - 1) (i - 1) row' [] (λ s. ne (omega (arith, cue_low x.cue cx, cue_low i ci))))
            | inr ni ↦ and_left (is_cue i) _ ni ∙ sym (and_left (is_cue i) _ ni)
          ]

      -- what is drawn then
      drawn_then : (i j : ℕ) → drawn (set edges (x.cue - 1) row') i j ≡ (drawn edges i j || between i j (some (joins alike i j x) (drop (p + 1) es)))
      drawn_then i j =
          elim (cases_eq x.cue i) [
            | inl same ↦
                let first = marked cues j && some (joins alike x.cue j x) (drop (p + 1) es) in
                let own : drawn (set edges (x.cue - 1) row') x.cue j ≡ (drawn edges x.cue j || (marked cues x.cue && first)) =
                ap (λ (b : Bool). b && marked (get_or (set edges (x.cue - 1) row') (x.cue - 1) []) j) cx
                ∙ ap (λ (r : List Bool). marked r j) (get_or-set_same edges (x.cue - 1) row' [] (omega (arith, cue_low x.cue cx, cue_high x.cue cx)))
                ∙ adds j
                ∙ ap (λ (b : Bool). (b && marked (get_or edges (x.cue - 1) []) j) || first) (sym cx)
                ∙ ap (λ (b : Bool). drawn edges x.cue j || (b && first)) mx in
                ap (λ (n : ℕ). drawn (set edges (x.cue - 1) row') n j) (sym same)
                ∙ own
                ∙ ap (λ (n : ℕ). drawn edges n j || between n j (some (joins alike n j x) (drop (p + 1) es))) same
            | inr ne ↦
                other_row i j ne
                ∙ sym (or_none (drawn edges i j))
                ∙ ap (λ (b : Bool). drawn edges i j || b) (sym (between_none i j _ (other_earlier i j (drop (p + 1) es) ne)))
          ]

      pub drew_more : Drew (p + 1) (set edges (x.cue - 1) row')
      drew_more i j =
          let rest = some_pair (joins alike i j) (drop (p + 1) es) in
          let first = some (joins alike i j x) (drop (p + 1) es) in
          ap (λ (b : Bool). b || between i j rest) (drawn_then i j)
          ∙ or_assoc (drawn edges i j) (between i j first) (between i j rest)
          ∙ ap (λ (b : Bool). drawn edges i j || b) (and_or (marked cues i) (marked cues j) first rest)
          ∙ here i j

  pub drew_none : Drew 0 (replicate 64 (replicate 64 false))
  drew_none i j = ap (λ (b : Bool). b || between i j (arrow alike es i j)) (drawn_none i j)

  pub drew_all : (p : ℕ) (edges : List (List Bool)) → drop p es ≡ [] → Drew p edges → (i j : ℕ) → drawn edges i j ≡ between i j (arrow alike es i j)
  drew_all p edges e all i j =
      sym (or_none (drawn edges i j))
      ∙ ap (λ (b : Bool). drawn edges i j || b) (sym (between_none i j _ (ap (some_pair (joins alike i j)) e)))
      ∙ all i j
