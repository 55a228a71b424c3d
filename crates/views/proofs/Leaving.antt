-- The cues that are placed and those that are left, where one more is placed. Assumes nothing.
use Rattle.std.proofs.Common.{◌≡◌, ℕ, ◌-◌, Bool, true, false, not, ◌&&◌, ◌||◌, eqb, List, [], ◌∷◌, length, get_or, set, filter, sym, refl, ap, ◌∙◌, inl, inr, arith}
use Rattle.std.specs.List.{AllByRecursion as All}
use Rattle.std.proofs.lemmas.List.{get_or-set_same, get_or-set_other}
use Rattle.std.proofs.lemmas.Bool.{and_left, cases_Bool, cases_eq, eq-eqb, eqb-true, ne_eqb, or_left, or_right}
use Rattle.lists.specs.Lists.{some, has}
use Rattle.lists.proofs.Some.{some_either}
use Rattle.orders.specs.Orders.{without}
use Rattle.orders.proofs.Extending.{without_kept}
use Rattle.history.specs.Entries.{is_cue}
use Rattle.history.specs.Marked.{marked}
use Rattle.history.proofs.Committed.{cue_low, cue_high}

-- of a list of cues, those that are placed, and those that are left
abbrev pub placed_in : List ℕ → List Bool → List ℕ
placed_in cues table = filter (marked table) cues

abbrev pub left_in : List ℕ → List Bool → List ℕ
left_in cues table = filter (λ n. not (marked table n)) cues

kept_same : (P : ℕ → Type 0) (U V : ℕ → Bool) → ((y : ℕ) → P y → U y ≡ V y) → (ys : List ℕ) → All P ys → filter U ys ≡ filter V ys
kept_same P U V same [] h = refl
kept_same P U V same (y ∷ ys) h =
    let e : U y ≡ V y = same y h.0 in
    let ih : filter U ys ≡ filter V ys = kept_same P U V same ys h.1 in
    rw (e, ih) refl

some_kept : (test U : ℕ → Bool) (ys : List ℕ) → some test (filter U ys) ≡ some (λ y. U y && test y) ys
some_kept test U [] = refl
some_kept test U (y ∷ ys) =
    let ih : some test (filter U ys) ≡ some (λ y. U y && test y) ys = some_kept test U ys in
    elim (cases_Bool (U y)) [ inl t ↦ rw t (ap (λ (b : Bool). test y || b) ih) | inr f ↦ rw f ih ]

-- x is in the list, so what holds of the elements that are x holds of x
some_is : (test : ℕ → Bool) (x : ℕ) (ys : List ℕ) → has x ys ≡ true → some (λ y. eqb y x && test y) ys ≡ test x
some_is test x ys h = elim (cases_Bool (test x)) [ inl t ↦ yes ys h t ∙ sym t | inr f ↦ no ys f ∙ sym f ]
  where
    here : (y : ℕ) → eqb y x ≡ true → (eqb y x && test y) ≡ test x
    here y e = ap (λ (b : Bool). b && test y) e ∙ ap test (eqb-true y x e)

    yes : (ys : List ℕ) → has x ys ≡ true → test x ≡ true → some (λ y. eqb y x && test y) ys ≡ true
    yes [] h t = h
    yes (y ∷ ys) h t =
        elim (cases_Bool (eqb y x)) [
          | inl e ↦ or_left (eqb y x && test y) (some (λ y. eqb y x && test y) ys) (here y e ∙ t)
          | inr f ↦ or_right (eqb y x && test y) (some (λ y. eqb y x && test y) ys) (yes ys (sym (ap (λ (b : Bool). b || has x ys) f) ∙ h) t)
        ]

    no : (ys : List ℕ) → test x ≡ false → some (λ y. eqb y x && test y) ys ≡ false
    no [] f = refl
    no (y ∷ ys) f =
        elim (cases_Bool (eqb y x)) [
          | inl e ↦ ap (λ (b : Bool). b || some (λ y. eqb y x && test y) ys) (here y e ∙ f) ∙ no ys f
          | inr n ↦ ap (λ (b : Bool). b || some (λ y. eqb y x && test y) ys) (and_left (eqb y x) (test y) n) ∙ no ys f
        ]

or_and : (a b c : Bool) → ((a || b) && c) ≡ ((a && c) || (b && c))
or_and true true true = refl
or_and true false true = refl
or_and true true false = refl
or_and true false false = refl
or_and false b c = refl

not_or : (a b : Bool) → not (a || b) ≡ (not a && not b)
not_or true b = refl
not_or false b = refl

-- the table with x placed too
module _ (table : List Bool) (long : length table ≡ 64) (x : ℕ) (cue : is_cue x ≡ true) where
  pub marked_set : (y : ℕ) → is_cue y ≡ true → marked (set table (x - 1) true) y ≡ (eqb y x || marked table y)
  marked_set y c =
      let lx = cue_low x cue in
      let hx = cue_high x cue in
      let ly = cue_low y c in
      let at : (ts : List Bool) → marked ts y ≡ get_or ts (y - 1) false = λ ts. ap (λ (b : Bool). b && get_or ts (y - 1) false) c in
      elim (cases_eq y x) [
        | inl e ↦
            let same : y - 1 ≡ x - 1 = ap (λ (n : ℕ). n - 1) e in
            at (set table (x - 1) true) ∙ ap (λ (n : ℕ). get_or (set table (x - 1) true) n false) same ∙ get_or-set_same table (x - 1) true false (omega arith)
            ∙ sym (or_left (eqb y x) (marked table y) (eq-eqb y x e))
        | inr ne ↦
            at (set table (x - 1) true) ∙ get_or-set_other table (x - 1) (y - 1) true false (λ z. ne (omega arith)) ∙ sym (at table)
            ∙ sym (ap (λ (b : Bool). b || marked table y) (ne_eqb y x ne))
      ]

  module _ (cues : List ℕ) (all : All (λ n. is_cue n ≡ true) cues) where
    pub left_set : left_in cues (set table (x - 1) true) ≡ without x (left_in cues table)
    left_set =
        kept_same (λ n. is_cue n ≡ true) (λ n. not (marked (set table (x - 1) true) n)) (λ n. not (eqb n x) && not (marked table n))
        (λ y c. ap not (marked_set y c) ∙ not_or (eqb y x) (marked table y)) cues all
        ∙ sym (without_kept x (λ n. not (marked table n)) cues)

    pub placed_set : has x cues ≡ true → (test : ℕ → Bool) → some test (placed_in cues (set table (x - 1) true)) ≡ some test (x ∷ placed_in cues table)
    placed_set h test =
        ap (some test) (kept_same (λ n. is_cue n ≡ true) (marked (set table (x - 1) true)) (λ n. eqb n x || marked table n) marked_set cues all)
        ∙ some_kept test (λ n. eqb n x || marked table n) cues
        ∙ some_either (λ n. (eqb n x || marked table n) && test n) (λ n. eqb n x && test n) (λ n. marked table n && test n) (λ n. or_and (eqb n x) (marked table n) (test n)) cues
        ∙ (λ k. some_is test x cues h k || sym (some_kept test (marked table) cues) k)
