-- The members in rising order, and their ranks, met one number after another. Assumes nothing.
use Rattle.std.proofs.Common.{◌≡◌, ℕ, zero, suc, ◌+◌, ◌-◌, ◌<◌, ◌≤◌, Bool, true, false, cond, eqb, List, [], ◌∷◌, ◌++◌, length, take, get_or, set, filter, Some, None, sym, refl, ap, ◌∙◌, inl, inr, arith}
use Rattle.std.specs.List.{range_with_len, position, position_or_len}
use Rattle.std.proofs.lemmas.List.{get_or-set_same, get_or-set_other, length-set, take_more_set}
use Rattle.std.proofs.lemmas.Bool.{both_ways, cases_Bool, cases_eq, cases_lt, eq-eqb, ne_eqb, lt-ltb, le-ltb}
use Rattle.orders.specs.Orders.{among}
use Rattle.orders.proofs.Among.{kept_yes}
use Rattle.history.specs.Marked.{marked}
use Rattle.history.proofs.Committed.{cue_low, cue_high}
use Rattle.history.proofs.Marks.{marked_cue}
use Rattle.views.specs.Ranks.{rank_noted, rank_in}

-- the numbers below n that pass
abbrev below : (ℕ → Bool) → ℕ → List ℕ
below c n = filter c (range_with_len 1 (n - 1))

module _ (c : ℕ → Bool) where
  kept_push : (a n j : ℕ) → a + n ≡ j → filter c (range_with_len a (suc n)) ≡ filter c (range_with_len a n) ++ cond (c j) (j ∷ []) []
  kept_push a zero j e =
      let q : a ≡ j = omega arith in
      rw q (elim (cases_Bool (c j)) [ inl t ↦ rw t refl | inr f ↦ rw f refl ])
  kept_push a (suc n) j e =
      let ih : filter c (range_with_len (a + 1) (suc n)) ≡ filter c (range_with_len (a + 1) n) ++ cond (c j) (j ∷ []) [] = kept_push (a + 1) n j (omega arith) in
      elim (cases_Bool (c a)) [ inl t ↦ rw t (ap (λ (zs : List ℕ). a ∷ zs) ih) | inr f ↦ rw f ih ]

  next : (n : ℕ) → 1 ≤ n → below c (n + 1) ≡ below c n ++ cond (c n) (n ∷ []) []
  next n h = let e : n + 1 - 1 ≡ suc (n - 1) = omega arith in ap (λ (m : ℕ). filter c (range_with_len 1 m)) e ∙ kept_push 1 (n - 1) n (omega arith)

  below_yes : (n : ℕ) → 1 ≤ n → c n ≡ true → below c (n + 1) ≡ below c n ++ n ∷ []
  below_yes n h t = next n h ∙ ap (λ (b : Bool). below c n ++ cond b (n ∷ []) []) t

  below_no : (n : ℕ) → 1 ≤ n → c n ≡ false → below c (n + 1) ≡ below c n
  below_no n h f = next n h ∙ ap (λ (b : Bool). below c n ++ cond b (n ∷ []) []) f ∙ append_none (below c n)
    where
      append_none : (xs : List ℕ) → xs ++ [] ≡ xs
      append_none [] = refl
      append_none (x ∷ xs) = ap (λ (zs : List ℕ). x ∷ zs) (append_none xs)

  long_yes : (n : ℕ) → 1 ≤ n → c n ≡ true → length (below c (n + 1)) ≡ length (below c n) + 1
  long_yes n h t =
      let e : n + 1 - 1 ≡ n - 1 + 1 = omega arith in
      ap (λ (m : ℕ). length (filter c (range_with_len 1 m))) e ∙ kept_yes c n (n - 1) (omega arith) t

  long_more : (n : ℕ) → 1 ≤ n → length (below c n) ≤ length (below c (n + 1))
  long_more n h =
      elim (cases_Bool (c n)) [
        | inl t ↦ omega (arith, long_yes n h t)
        | inr f ↦ omega (arith, ap length (below_no n h f))
      ]

  long_after : (a d b : ℕ) → 1 ≤ a → a + d ≡ b → length (below c a) ≤ length (below c b)
  long_after a zero b h e = omega (arith, ap (λ (m : ℕ). length (below c m)) (let q : a ≡ b = omega arith in q))
  long_after a (suc d) b h e =
      let q : a + d + 1 ≡ b = omega arith in
      omega (arith, long_after a d (a + d) h refl, long_more (a + d) (omega arith), ap (λ (m : ℕ). length (below c m)) q)

  below_all : (n : ℕ) → n ≡ 65 → below c n ≡ among c
  unfolding among
  below_all n e = ap (λ (m : ℕ). filter c (range_with_len 1 (m - 1))) e

-- the numbers below n have been looked at
pub record Listed (c : ℕ → Bool) (n : ℕ) (numbers : List ℕ) (count : ℕ) : Type 0 where
  pub eight : length numbers ≡ 8
  pub few : count ≤ 8
  pub many : count ≡ length (below c n)
  pub front : take count numbers ≡ below c n

module _ (c : ℕ → Bool) (n : ℕ) (numbers : List ℕ) (count : ℕ) (low : 1 ≤ n) (inv : Listed c n numbers count) where
  pub listed_no : c n ≡ false → Listed c (n + 1) numbers count
  listed_no f =
      record { eight = inv.eight; few = inv.few; many = inv.many ∙ sym (ap length (below_no c n low f)); front = inv.front ∙ sym (below_no c n low f) }

  pub listed_yes : c n ≡ true → (count ≡ 8 → ⊥) → Listed c (n + 1) (set numbers count n) (count + 1)
  listed_yes t room =
      let less : count < 8 = elim (cases_lt count 8) [ inl l ↦ l | inr h ↦ absurd (room (omega (arith, inv.few))) ] in
      record {
        eight = length-set numbers count n ∙ inv.eight;
        few = omega arith;
        many = omega (arith, inv.many, long_yes c n low t);
        front = take_more_set numbers count n (omega (arith, inv.eight)) ∙ ap (λ (zs : List ℕ). zs ++ n ∷ []) inv.front ∙ sym (below_yes c n low t);
      }

  -- a ninth
  pub listed_past : c n ≡ true → n ≤ 64 → count ≡ 8 → 8 < length (among c)
  listed_past t high full =
      omega (arith, inv.many, long_yes c n low t, long_after c (n + 1) (64 - n) 65 (omega arith) (omega arith), ap length (below_all c 65 refl))

pub listed_all : (c : ℕ → Bool) (n : ℕ) (numbers : List ℕ) (count : ℕ) → n ≡ 65 → Listed c n numbers count → take count numbers ≡ among c
listed_all c n numbers count e inv = inv.front ∙ below_all c n e

-- of each number below n that passes, its cell has how many pass before it
pub record RankedBelow (c : ℕ → Bool) (n : ℕ) (ranks : List ℕ) : Type 0 where
  pub long : length ranks ≡ 64
  pub rank : (j : ℕ) → 1 ≤ j → j < n → c j ≡ true → get_or ranks (j - 1) 0 ≡ length (below c j)

module _ (c : ℕ → Bool) (n : ℕ) (ranks : List ℕ) (low : 1 ≤ n) (inv : RankedBelow c n ranks) where
  pub ranked_no : c n ≡ false → RankedBelow c (n + 1) ranks
  ranked_no f =
      record {
        long = inv.long;
        rank =
            λ j l h t.
            elim (cases_eq j n) [
              | inl e ↦ let z : c n ≡ true = ap c (sym e) ∙ t in absurd (both_ways (c n) f z)
              | inr ne ↦ inv.rank j l (omega arith) t
            ];
      }

  pub ranked_yes : (count : ℕ) → n ≤ 64 → count ≡ length (below c n) → RankedBelow c (n + 1) (set ranks (n - 1) count)
  ranked_yes count high is =
      record {
        long = length-set ranks (n - 1) count ∙ inv.long;
        rank =
            λ j l h t.
            elim (cases_eq j n) [
              | inl e ↦
                  ap (λ (k : ℕ). get_or (set ranks (n - 1) count) (k - 1) 0) e
                  ∙ get_or-set_same ranks (n - 1) count 0 (omega (arith, inv.long))
                  ∙ is
                  ∙ ap (λ (k : ℕ). length (below c k)) (sym e)
              | inr ne ↦ get_or-set_other ranks (n - 1) (j - 1) count 0 (λ z. ne (omega arith)) ∙ inv.rank j l (omega arith) t
            ];
      }

module _ (c : ℕ → Bool) (j : ℕ) where
  -- a number that passes stands behind those before it that do
  place : (a d m : ℕ) → a + d ≡ j → d < m → c j ≡ true → position_or_len (λ x. eqb x j) (filter c (range_with_len a m)) ≡ length (filter c (range_with_len a d))
  place a d zero e h t = absurd (omega arith)
  place a zero (suc m) e h t =
      let q : a ≡ j = omega arith in
      let here : c a ≡ true = ap c q ∙ t in
      let same : eqb a j ≡ true = eq-eqb a j q in
      rw (here, same) refl
  place a (suc d) (suc m) e h t =
      let ih : position_or_len (λ x. eqb x j) (filter c (range_with_len (a + 1) m)) ≡ length (filter c (range_with_len (a + 1) d)) = place (a + 1) d m (omega arith) (omega arith) t in
      let other : eqb a j ≡ false = ne_eqb a j (λ z. omega arith) in
      elim (cases_Bool (c a)) [ inl y ↦ rw (y, other, ih) (omega arith) | inr f ↦ rw f ih ]

  -- and one that does not stands nowhere
  absent : (a m : ℕ) → c j ≡ false → position_or_len (λ x. eqb x j) (filter c (range_with_len a m)) ≡ length (filter c (range_with_len a m))
  absent a zero f = refl
  absent a (suc m) f =
      let ih : position_or_len (λ x. eqb x j) (filter c (range_with_len (a + 1) m)) ≡ length (filter c (range_with_len (a + 1) m)) = absent (a + 1) m f in
      elim (cases_Bool (c a)) [
        | inl y ↦
            let other : eqb a j ≡ false = ne_eqb a j (λ z. both_ways (c j) f (ap c (sym z) ∙ y)) in
            rw (y, other, ih) (omega arith)
        | inr n ↦ rw n ih
      ]

  pub position_yes : 1 ≤ j → j ≤ 64 → c j ≡ true → position (λ x. eqb x j) (among c) ≡ Some (length (below c j))
  unfolding among
  position_yes low high t =
      let at : position_or_len (λ x. eqb x j) (filter c (range_with_len 1 64)) ≡ length (below c j) = place 1 (j - 1) 64 (omega arith) (omega arith) t in
      let less : length (below c j) < length (filter c (range_with_len 1 64)) = omega (arith, long_yes c j low t, long_after c (j + 1) (64 - j) 65 (omega arith) (omega arith)) in
      rw (at, lt-ltb (length (below c j)) (length (filter c (range_with_len 1 64))) less) refl

  pub position_no : c j ≡ false → position (λ x. eqb x j) (among c) ≡ None
  unfolding among
  position_no f =
      let at : position_or_len (λ x. eqb x j) (filter c (range_with_len 1 64)) ≡ length (filter c (range_with_len 1 64)) = absent 1 64 f in
      rw (at, le-ltb (length (filter c (range_with_len 1 64))) (length (filter c (range_with_len 1 64))) (omega arith)) refl

-- when all are looked at the table tells the rank of each number
pub ranked_all : (cues : List Bool) (n : ℕ) (ranks : List ℕ) → n ≡ 65 → RankedBelow (marked cues) n ranks → (j : ℕ) → rank_noted cues ranks j ≡ rank_in cues j
ranked_all cues n ranks e inv j =
    elim (cases_Bool (marked cues j)) [
      | inl t ↦
          let cue = marked_cue cues j t in
          let low = cue_low j cue in
          let high = cue_high j cue in
          rw t (ap (λ (k : ℕ). Some k) (inv.rank j low (omega arith) t) ∙ sym (position_yes (marked cues) j low high t))
      | inr f ↦ rw f (sym (position_no (marked cues) j f))
    ]
