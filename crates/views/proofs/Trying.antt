-- The first order of the cues left, found by trying each of them next. Assumes nothing.
use Rattle.std.proofs.Common.{◌≡◌, ℕ, zero, suc, ◌+◌, ◌-◌, ◌<◌, ◌≤◌, Bool, true, false, not, ◌&&◌, ◌||◌, eqb, is_some, List, [], ◌∷◌, length, get_or, drop, set, Some, None, filter, Option, sym, refl, ap, ◌∙◌, subst, inl, inr, arith}
use Rattle.std.specs.Option.{option_map}
use Rattle.std.specs.List.{AllByRecursion as All}
use Rattle.std.proofs.ByRecursion.{All-weaker, All-get_or}
use Rattle.std.proofs.lemmas.List.{at_drop_more, at_drop_all, nil_from_length}
use Rattle.std.proofs.lemmas.Bool.{cond-true, cond-false, both_ways, cases_Bool, eq-eqb, eqb-true, not_from_false, or_left, or_right}
use Rattle.lists.specs.Lists.{some, or_else, has}
use Rattle.orders.specs.Least.{Distinct}
use Rattle.orders.specs.Orders.{without, first_where, orders}
use Rattle.orders.proofs.Among.{among_all}
use Rattle.orders.proofs.Extending.{distinct_kept, length_without}
use Rattle.orders.proofs.Leasts.{distinct_among}
use Rattle.history.specs.Entries.{is_cue}
use Rattle.history.specs.Marked.{marked}
use Rattle.history.proofs.Committed.{is_cue_lem}
use Rattle.equivalence.specs.Extending.{may_come, fits_after}
use Rattle.equivalence.proofs.Serial.{has_stands}
use Rattle.equivalence.proofs.Extended.{try_one, try_all, first_by_branches}
use Rattle.views.specs.declared.extending.Placing.{Placing}
use Rattle.views.specs.Answer.{filled}
use Rattle.views.specs.Shown.{all_of, placed_of, left_of, ahead_by, apart_by, rest_of}
use Rattle.views.proofs.Leaving.{left_in, left_set, placed_set}

-- an order fits by what was seen, in whatever order it was
fits_seen : (ahead : ℕ → ℕ → Bool) (apart : ℕ → ℕ → ℕ → Bool) (o seen others : List ℕ) → ((test : ℕ → Bool) → some test seen ≡ some test others) → fits_after ahead apart seen o ≡ fits_after ahead apart others o
fits_seen ahead apart [] seen others same = refl
fits_seen ahead apart (x ∷ o) seen others same =
    λ k.
    (not (some (λ i. ahead i x) o) && not (same (λ j. some (λ i. apart j i x) o) k))
    && fits_seen ahead apart o (x ∷ seen) (x ∷ others) (λ test n. test x || same test n) k

first_alike : (p q : List ℕ → Bool) → ((o : List ℕ) → p o ≡ q o) → (os : List (List ℕ)) → first_where p os ≡ first_where q os
first_alike p q same os k = first_where (λ o. same o k) os

has_kept : (U : ℕ → Bool) (x : ℕ) (ys : List ℕ) → has x ys ≡ true → U x ≡ true → has x (filter U ys) ≡ true
has_kept U x [] h u = h
has_kept U x (y ∷ ys) h u =
    elim (cases_Bool (eqb y x)) [
      | inl e ↦
          let uy : U y ≡ true = ap U (eqb-true y x e) ∙ u in
          rw uy (or_left (eqb y x) (has x (filter U ys)) e)
      | inr f ↦
          let ih : has x (filter U ys) ≡ true = has_kept U x ys (sym (ap (λ (b : Bool). b || has x ys) f) ∙ h) u in
          elim (cases_Bool (U y)) [ inl t ↦ rw t (or_right (eqb y x) (has x (filter U ys)) ih) | inr g ↦ rw g ih ]
    ]

pub has_at : (ys : List ℕ) (k : ℕ) → k < length ys → has (get_or ys k 0) ys ≡ true
has_at [] k h = absurd (omega arith)
has_at (y ∷ ys) zero h = or_left (eqb y y) (has y ys) (eq-eqb y y refl)
has_at (y ∷ ys) (suc k) h = or_right (eqb y (get_or ys k 0)) (has (get_or ys k 0) ys) (has_at ys k (omega arith))

pub found_none : (rest : Option (List ℕ)) → is_some rest ≡ false → rest ≡ None
found_none None h = refl
found_none (Some o) h = absurd (both_ways true h refl)

-- the members
pub members_distinct : (p : Placing) → Distinct (all_of p)
members_distinct p = distinct_among (marked p.constraints.now.members.cues)

pub members_cues : (p : Placing) → All (λ n. is_cue n ≡ true) (all_of p)
members_cues p =
    All-weaker (λ m. (1 ≤ m) × (m ≤ 64) × (marked p.constraints.now.members.cues m ≡ true)) (λ m. is_cue m ≡ true) (λ m k. is_cue_lem m k.0 k.1) (all_of p) (among_all (marked p.constraints.now.members.cues))

module _ (p : Placing) where
  -- the first order that starts with one of the cues xs
  abbrev pub Tried : List ℕ → Option (List ℕ)
  Tried xs = try_all (ahead_by p) (apart_by p) (placed_of p) (left_of p) (left_in xs p.placed)

  -- with none left, the order is whole
  pub rest_none : length (left_of p) ≡ 0 → rest_of p ≡ Some []
  rest_none e = ap (λ (us : List ℕ). first_where (fits_after (ahead_by p) (apart_by p) (placed_of p)) (orders us)) (nil_from_length (left_of p) e)

  -- none of them is left to try
  pub rest_end : (cues : List ℕ) (k : ℕ) → length cues ≤ k → Tried (drop k cues) ≡ rest_of p → rest_of p ≡ None
  rest_end cues k h inv = sym inv ∙ at_drop_all Tried cues k h

  module _ (cues : List ℕ) (is : cues ≡ all_of p) where
    pub rest_tried : 0 < length (left_of p) → Tried cues ≡ rest_of p
    rest_tried h =
        ap Tried is
        ∙ sym (first_by_branches (ahead_by p) (apart_by p) (placed_of p) (left_of p) (distinct_kept (λ n. not (marked p.placed n)) (all_of p) (members_distinct p))
        (λ e. omega (arith, h, ap length e)))

    -- the cue with index k is next
    module _ (k : ℕ) (h : k < length cues) where
      abbrev x : ℕ
      x = get_or cues k 0

      abbrev One : Option (List ℕ)
      One = try_one (ahead_by p) (apart_by p) (placed_of p) (left_of p) x

      abbrev Next : Placing
      Next = record { constraints = p.constraints; placed = set p.placed (x - 1) true }

      abbrev May : Bool
      May = may_come (ahead_by p) (apart_by p) (placed_of p) x (without x (left_of p))

      -- the first order of the others after it
      abbrev Others : Option (List ℕ)
      Others = first_where (fits_after (ahead_by p) (apart_by p) (x ∷ placed_of p)) (orders (without x (left_of p)))

      pub next_cue : is_cue x ≡ true
      next_cue = All-get_or (λ n. is_cue n ≡ true) cues k 0 h (subst (All (λ n. is_cue n ≡ true)) (sym is) (members_cues p))

      there : has x (all_of p) ≡ true
      there = subst (λ (us : List ℕ). has x us ≡ true) is (has_at cues k h)

      left_tried : marked p.placed x ≡ false → Tried (drop k cues) ≡ or_else One (Tried (drop (k + 1) cues))
      left_tried n = at_drop_more Tried cues k 0 h ∙ step
        where
          step : Tried (x ∷ drop (k + 1) cues) ≡ or_else One (Tried (drop (k + 1) cues))
          step = rw n refl

      pub past_placed : marked p.placed x ≡ true → Tried (drop k cues) ≡ rest_of p → Tried (drop (k + 1) cues) ≡ rest_of p
      past_placed m inv = sym step ∙ sym (at_drop_more Tried cues k 0 h) ∙ inv
        where
          step : Tried (x ∷ drop (k + 1) cues) ≡ Tried (drop (k + 1) cues)
          step = rw m refl

      pub past_barred : marked p.placed x ≡ false → May ≡ false → Tried (drop k cues) ≡ rest_of p → Tried (drop (k + 1) cues) ≡ rest_of p
      past_barred n f inv =
          sym (left_tried n ∙ ap (λ (o : Option (List ℕ)). or_else o (Tried (drop (k + 1) cues))) (cond-false May (option_map (λ o. x ∷ o) Others) None f)) ∙ inv

      module _ (long : length p.placed ≡ 64) (n : marked p.placed x ≡ false) where
        rest_next : rest_of Next ≡ Others
        rest_next =
            first_alike (fits_after (ahead_by p) (apart_by p) (placed_of Next)) (fits_after (ahead_by p) (apart_by p) (x ∷ placed_of p))
            (λ o. fits_seen (ahead_by p) (apart_by p) o (placed_of Next) (x ∷ placed_of p) (placed_set p.placed long x next_cue (all_of p) (members_cues p) there)) (orders (left_of Next))
            ∙ ap (λ (us : List ℕ). first_where (fits_after (ahead_by p) (apart_by p) (x ∷ placed_of p)) (orders us)) (left_set p.placed long x next_cue (all_of p) (members_cues p))

        -- one less is left
        pub left_less : length (left_of p) ≡ suc (length (left_of Next))
        left_less =
            length_without x (left_of p) (distinct_kept (λ m. not (marked p.placed m)) (all_of p) (members_distinct p))
            (has_stands x (left_of p) (has_kept (λ m. not (marked p.placed m)) x (all_of p) there (not_from_false (marked p.placed x) n)))
            ∙ ap (λ (us : List ℕ). suc (length us)) (sym (left_set p.placed long x next_cue (all_of p) (members_cues p)))

        one_next : May ≡ true → One ≡ option_map (λ o. x ∷ o) (rest_of Next)
        one_next y = cond-true May (option_map (λ o. x ∷ o) Others) None y ∙ ap (option_map (λ o. x ∷ o)) (sym rest_next)

        pub past_tried : May ≡ true → is_some (rest_of Next) ≡ false → Tried (drop k cues) ≡ rest_of p → Tried (drop (k + 1) cues) ≡ rest_of p
        past_tried y f inv =
            sym (left_tried n ∙ ap (λ (o : Option (List ℕ)). or_else o (Tried (drop (k + 1) cues))) (one_next y ∙ ap (option_map (λ o. x ∷ o)) (found_none (rest_of Next) f))) ∙ inv

        pub rest_found : May ≡ true → is_some (rest_of Next) ≡ true → Tried (drop k cues) ≡ rest_of p → rest_of p ≡ option_map (λ o. x ∷ o) (rest_of Next)
        rest_found y f inv =
            sym inv ∙ left_tried n ∙ ap (λ (o : Option (List ℕ)). or_else o (Tried (drop (k + 1) cues))) (one_next y) ∙ kept (rest_of Next) f
          where
            kept : (rest : Option (List ℕ)) → is_some rest ≡ true → or_else (option_map (λ o. x ∷ o) rest) (Tried (drop (k + 1) cues)) ≡ option_map (λ o. x ∷ o) rest
            kept None h = absurd (both_ways false refl h)
            kept (Some o) h = refl

pub found_more : (x : ℕ) (rest : Option (List ℕ)) → is_some (option_map (λ o. x ∷ o) rest) ≡ is_some rest
found_more x None = refl
found_more x (Some o) = refl

-- what the list holds
pub filled_none : (rest : Option (List ℕ)) (list : List ℕ) → is_some rest ≡ false → filled rest list ≡ list
filled_none None list h = refl
filled_none (Some o) list h = absurd (both_ways true h refl)

pub filled_more : (x : ℕ) (rest : Option (List ℕ)) (cell : ℕ) (list : List ℕ) → is_some rest ≡ true → x ∷ filled rest list ≡ filled (option_map (λ o. x ∷ o) rest) (cell ∷ list)
filled_more x None cell list h = absurd (both_ways false refl h)
filled_more x (Some o) cell list h = refl
