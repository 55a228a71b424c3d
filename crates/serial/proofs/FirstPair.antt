-- The pair that is found is the first, and no other answer is right.
use Rattle.std.proofs.Common.{◌≡◌, ℕ, zero, suc, ◌+◌, ◌-◌, ◌<◌, ◌≤◌, Bool, true, false, cond, not, ◌&&◌, eqb, ◌⊎◌, List, [], ◌∷◌, length, get_or, drop, Some, None, Ok, Err, Option, Result, sym, refl, ap, ◌∙◌, subst, inl, inr, arith}
use Rattle.std.proofs.lemmas.List.{at_drop_all}
use Rattle.std.proofs.lemmas.Bool.{and_from, and_left, and_parts, and_right, both_ways, eq-eqb, eqb-true, ne_eqb, not-true, not_from_false}
use Rattle.lists.specs.Lists.{or_else}
use Rattle.lists.proofs.Drops.{drop_read}
use Rattle.refusals.specs.declared.Refusal.{Refusal}
use Rattle.refusals.specs.declared.Refusal.TheVariants.{CuePair}
use Rattle.history.specs.declared.Entry.{Entry}
use Rattle.history.specs.Conflicts.{conflict}
use Rattle.history.specs.Entries.{is_cue}
use Rattle.history.proofs.Places.{cue_is, is_of_cue}
use Rattle.serial.specs.declared.Pair.{Pair}
use Rattle.serial.specs.Why.{two_cues, answers, pair_with, pair_from, why_of, why_answer, AreTwoCues, Tells, WhyIsTold}
use Rattle.history.specs.Order.{PutsBefore}
use Rattle.std.proofs.lemmas.Option.{slice_get_within, get_or_from_slice_get, slice_get-get_or}

never_err : (o : Option Pair) (f : Refusal) → Ok o ≡ Err f → ⊥
never_err o f e = let z : ◌≡◌ {A = ℕ} 0 1 = cc in omega arith

never_ok : (o : Option Pair) (f : Refusal) → Err f ≡ Ok o → ⊥
never_ok o f e = let z : ◌≡◌ {A = ℕ} 0 1 = cc in omega arith

module _ {K : Type 0} (alike : K → K → Bool) (i j : ℕ) where
  -- the entry with index k answers x
  record Hits (x : Entry K) (ys : List (Entry K)) (k : ℕ) : Type 0 where
    within : k < length ys
    passes : (d : Entry K) → answers alike j x (get_or ys k d) ≡ true

  -- w is place p with that of the first entry that answers x, where the places are counted from q on
  record With (x : Entry K) (p q : ℕ) (ys : List (Entry K)) (w : Pair) : Type 0 where
    index : ℕ
    first : w.first ≡ p
    second : w.second ≡ q + index
    hits : Hits x ys index
    least : (k : ℕ) → Hits x ys k → index ≤ k

  abbrev WithOr : (x : Entry K) (p q : ℕ) (ys : List (Entry K)) → Option Pair → Type 0
  WithOr x p q ys None = (k : ℕ) → Hits x ys k → ⊥
  WithOr x p q ys (Some w) = With x p q ys w

  hits_more : (x y : Entry K) (ys : List (Entry K)) (k : ℕ) → Hits x ys k → Hits x (y ∷ ys) (suc k)
  hits_more x y ys k h = record { within = omega (arith, h.within); passes = h.passes }

  hits_less : (x y : Entry K) (ys : List (Entry K)) (k : ℕ) → Hits x (y ∷ ys) (suc k) → Hits x ys k
  hits_less x y ys k h = record { within = omega (arith, h.within); passes = h.passes }

  with_none : (x y : Entry K) (ys : List (Entry K)) → answers alike j x y ≡ false → ((k : ℕ) → Hits x ys k → ⊥) → (k : ℕ) → Hits x (y ∷ ys) k → ⊥
  with_none x y ys e h zero hit = both_ways (answers alike j x y) e (hit.passes y)
  with_none x y ys e h (suc k) hit = h k (hits_less x y ys k hit)

  with_least : (x y : Entry K) (ys : List (Entry K)) (a : ℕ) → answers alike j x y ≡ false → ((k : ℕ) → Hits x ys k → a ≤ k) → (k : ℕ) → Hits x (y ∷ ys) k → suc a ≤ k
  with_least x y ys a e h zero hit = absurd (both_ways (answers alike j x y) e (hit.passes y))
  with_least x y ys a e h (suc k) hit = omega (arith, h k (hits_less x y ys k hit))

  with_step : (x y : Entry K) (p q : ℕ) (ys : List (Entry K)) (b : Bool) (o : Option Pair) → answers alike j x y ≡ b → WithOr x p (q + 1) ys o → WithOr x p q (y ∷ ys) (cond b (Some (record { first = p; second = q })) o)
  with_step x y p q ys true o e h = record { index = 0; first = refl; second = omega arith; hits = record { within = omega arith; passes = λ d. e }; least = λ k hit. omega arith }
  with_step x y p q ys false None e h = with_none x y ys e h
  with_step x y p q ys false (Some w) e h = record { index = suc h.index; first = h.first; second = omega (arith, h.second); hits = hits_more x y ys h.index h.hits; least = with_least x y ys h.index e h.least }

  with_is : (x : Entry K) (p q : ℕ) (ys : List (Entry K)) → WithOr x p q ys (pair_with alike j x p q ys)
  with_is x p q [] = λ k hit. omega (arith, hit.within)
  with_is x p q (y ∷ ys) = with_step x y p q ys (answers alike j x y) (pair_with alike j x p (q + 1) ys) refl (with_is x p (q + 1) ys)

  -- the entries with indices a and b put cue i before cue j
  record Puts (es : List (Entry K)) (a b : ℕ) : Type 0 where
    order : a < b
    within : b < length es
    earlier : (d : Entry K) → (get_or es a d).cue ≡ i
    later : (d : Entry K) → (get_or es b d).cue ≡ j
    clash : (d : Entry K) → conflict alike (get_or es a d) (get_or es b d) ≡ true

  -- w is the first pair of which the earlier entry is x, the first one, at place n
  record Here (n : ℕ) (x : Entry K) (xs : List (Entry K)) (w : Pair) : Type 0 where
    index : ℕ
    first : w.first ≡ n
    second : w.second ≡ n + suc index
    puts : Puts (x ∷ xs) 0 (suc index)
    least : (b : ℕ) → Puts (x ∷ xs) 0 (suc b) → index ≤ b

  abbrev HereOr : (n : ℕ) (x : Entry K) (xs : List (Entry K)) → Option Pair → Type 0
  HereOr n x xs None = (b : ℕ) → Puts (x ∷ xs) 0 (suc b) → ⊥
  HereOr n x xs (Some w) = Here n x xs w

  hits_of : (x : Entry K) (xs : List (Entry K)) (b : ℕ) → Puts (x ∷ xs) 0 (suc b) → Hits x xs b
  hits_of x xs b r = record { within = omega (arith, r.within); passes = λ d. and_from (eqb (get_or xs b d).cue j) (conflict alike x (get_or xs b d)) (eq-eqb _ _ (r.later d)) (r.clash d) }

  puts_of : (x : Entry K) (xs : List (Entry K)) (b : ℕ) → x.cue ≡ i → Hits x xs b → Puts (x ∷ xs) 0 (suc b)
  puts_of x xs b e h =
      let both : (d : Entry K) → (eqb (get_or xs b d).cue j ≡ true) × (conflict alike x (get_or xs b d) ≡ true) = λ d. and_parts (eqb (get_or xs b d).cue j) (conflict alike x (get_or xs b d)) (h.passes d) in
      record { order = omega arith; within = omega (arith, h.within); earlier = λ d. e; later = λ d. eqb-true _ _ (both d).0; clash = λ d. (both d).1 }

  here_is : (n : ℕ) (x : Entry K) (xs : List (Entry K)) (b : Bool) (o : Option Pair) → eqb x.cue i ≡ b → WithOr x n (n + 1) xs o → HereOr n x xs (cond b o None)
  here_is n x xs true None e h = λ b r. h b (hits_of x xs b r)
  here_is n x xs true (Some w) e h = record { index = h.index; first = h.first; second = omega (arith, h.second); puts = puts_of x xs h.index (eqb-true _ _ e) h.hits; least = λ b r. h.least b (hits_of x xs b r) }
  here_is n x xs false o e h = λ b r. both_ways (eqb x.cue i) e (eq-eqb _ _ (r.earlier x))

  -- w is the first pair of places, counted from n on
  record First (n : ℕ) (es : List (Entry K)) (w : Pair) : Type 0 where
    a : ℕ
    b : ℕ
    first : w.first ≡ n + a
    second : w.second ≡ n + b
    puts : Puts es a b
    least : (c d : ℕ) → Puts es c d → (a < c) ⊎ ((a ≡ c) × (b ≤ d))

  abbrev FirstOr : (n : ℕ) (es : List (Entry K)) → Option Pair → Type 0
  FirstOr n es None = (a b : ℕ) → Puts es a b → ⊥
  FirstOr n es (Some w) = First n es w

  puts_more : (x : Entry K) (xs : List (Entry K)) (a b : ℕ) → Puts xs a b → Puts (x ∷ xs) (suc a) (suc b)
  puts_more x xs a b r = record { order = omega (arith, r.order); within = omega (arith, r.within); earlier = r.earlier; later = r.later; clash = r.clash }

  puts_less : (x : Entry K) (xs : List (Entry K)) (a b : ℕ) → Puts (x ∷ xs) (suc a) (suc b) → Puts xs a b
  puts_less x xs a b r = record { order = omega (arith, r.order); within = omega (arith, r.within); earlier = r.earlier; later = r.later; clash = r.clash }

  -- what holds of the pairs with the first entry and of the others holds of each
  each_pair : (x : Entry K) (xs : List (Entry K)) (P : ℕ → ℕ → Type 0) → ((b : ℕ) → Puts (x ∷ xs) 0 (suc b) → P 0 (suc b)) → ((a b : ℕ) → Puts xs a b → P (suc a) (suc b)) → (a b : ℕ) → Puts (x ∷ xs) a b → P a b
  each_pair x xs P here more zero zero r = absurd (omega (arith, r.order))
  each_pair x xs P here more zero (suc b) r = here b r
  each_pair x xs P here more (suc a) zero r = absurd (omega (arith, r.order))
  each_pair x xs P here more (suc a) (suc b) r = more a b (puts_less x xs a b r)

  later_pair : (a b c d : ℕ) → (a < c) ⊎ ((a ≡ c) × (b ≤ d)) → (suc a < suc c) ⊎ ((suc a ≡ suc c) × (suc b ≤ suc d))
  later_pair a b c d (inl h) = inl (omega arith)
  later_pair a b c d (inr h) = inr (ap suc h.0, omega (arith, h.1))

  first_step : (n : ℕ) (x : Entry K) (xs : List (Entry K)) (o more : Option Pair) → HereOr n x xs o → FirstOr (n + 1) xs more → FirstOr n (x ∷ xs) (or_else o more)
  first_step n x xs None None h k = each_pair x xs (λ a b. ⊥) h k
  first_step n x xs None (Some w) h k =
      record {
        a = suc k.a;
        b = suc k.b;
        first = omega (arith, k.first);
        second = omega (arith, k.second);
        puts = puts_more x xs k.a k.b k.puts;
        least =
            each_pair x xs (λ c d. (suc k.a < c) ⊎ ((suc k.a ≡ c) × (suc k.b ≤ d)))
            (λ b r. absurd (h b r))
            (λ c d r. later_pair k.a k.b c d (k.least c d r));
      }
  first_step n x xs (Some w) more h k =
      record {
        a = 0;
        b = suc h.index;
        first = omega (arith, h.first);
        second = h.second;
        puts = h.puts;
        least =
            each_pair x xs (λ c d. (0 < c) ⊎ ((0 ≡ c) × (suc h.index ≤ d)))
            (λ b r. inr (refl, omega (arith, h.least b r)))
            (λ c d r. inl (omega arith));
      }

  first_is : (n : ℕ) (es : List (Entry K)) → FirstOr n es (pair_from alike i j n es)
  first_is n [] = λ a b r. omega (arith, r.within)
  first_is n (x ∷ xs) =
      first_step n x xs (cond (eqb x.cue i) (pair_with alike j x n (n + 1) xs) None) (pair_from alike i j (n + 1) xs)
      (here_is n x xs (eqb x.cue i) (pair_with alike j x n (n + 1) xs) refl (with_is x n (n + 1) xs))
      (first_is (n + 1) xs)

  -- places count from 1, indices from 0
  puts_before : (es : List (Entry K)) (p q : ℕ) → PutsBefore alike es i j p q → (1 ≤ p) × (1 ≤ q) × Puts es (p - 1) (q - 1)
  puts_before es zero q h = let z = h.first in cc
  puts_before es (suc a) zero h = let z = h.second in cc
  puts_before es (suc a) (suc b) h =
      let x : (d : Entry K) → get_or es a d ≡ h.earlier = λ d. get_or_from_slice_get es a h.earlier d h.first in
      let y : (d : Entry K) → get_or es b d ≡ h.later = λ d. get_or_from_slice_get es b h.later d h.second in
      let ea : a ≡ suc a - 1 = omega arith in
      let eb : b ≡ suc b - 1 = omega arith in
      let puts : Puts es a b =
      record {
        order = omega (arith, h.before);
        within = slice_get_within es b h.later h.second;
        earlier = λ d. ap (λ (e : Entry K). e.cue) (x d) ∙ h.from;
        later = λ d. ap (λ (e : Entry K). e.cue) (y d) ∙ h.to;
        clash = λ d. (λ k. conflict alike (x d k) (y d k)) ∙ h.clash;
      } in
      (omega arith, omega arith, subst (λ m. Puts es m (suc b - 1)) ea (subst (λ m. Puts es a m) eb puts))

  before_puts : (es : List (Entry K)) (p q a b : ℕ) → p ≡ 1 + a → q ≡ 1 + b → Puts es a b → PutsBefore alike es i j p q
  before_puts es p q a b ep eq r = subst (λ m. PutsBefore alike es i j m q) (sym sp) (subst (λ m. PutsBefore alike es i j (suc a) m) (sym sq) (at es r))
    where
      sp : p ≡ suc a
      sp = omega (arith, ep)

      sq : q ≡ suc b
      sq = omega (arith, eq)

      at : (fs : List (Entry K)) → Puts fs a b → PutsBefore alike fs i j (suc a) (suc b)
      at [] s = absurd (omega (arith, s.within))
      at (d ∷ fs) s =
          record {
            earlier = get_or (d ∷ fs) a d;
            later = get_or (d ∷ fs) b d;
            first = slice_get-get_or (d ∷ fs) a d (omega (arith, s.order, s.within));
            second = slice_get-get_or (d ∷ fs) b d s.within;
            before = omega (arith, s.order);
            from = s.earlier d;
            to = s.later d;
            clash = s.clash d;
          }

  -- a pair of places is later where its indices are
  later_place : (es : List (Entry K)) (w : Pair) (h : First 1 es w) (p q : ℕ) → PutsBefore alike es i j p q → (w.first < p) ⊎ ((w.first ≡ p) × (w.second ≤ q))
  later_place es w h p q r =
      let puts = puts_before es p q r in
      elim (h.least (p - 1) (q - 1) puts.2) [
        | inl k ↦ inl (omega (arith, h.first, k))
        | inr k ↦ inr (omega (arith, h.first, k.0, puts.0), omega (arith, h.second, k.1, puts.1))
      ]

  two_of : two_cues i j ≡ true → AreTwoCues i j
  two_of h =
      let q = and_parts (is_cue i && is_cue j) (not (eqb i j)) h in
      let p = and_parts (is_cue i) (is_cue j) q.0 in
      record {
        one = cue_is i p.0;
        other = cue_is j p.1;
        differ = λ e. both_ways (eqb i j) (not-true (eqb i j) q.1) (eq-eqb i j e);
      }

  of_two : AreTwoCues i j → two_cues i j ≡ true
  of_two t =
      and_from (is_cue i && is_cue j) (not (eqb i j))
      (and_from (is_cue i) (is_cue j) (is_of_cue i t.one) (is_of_cue j t.other))
      (not_from_false (eqb i j) (ne_eqb i j t.differ))

  tells_of : AreTwoCues i j → (es : List (Entry K)) (o : Option Pair) → FirstOr 1 es o → Tells alike es i j (Ok o)
  tells_of two es None h =
      record {
        found = λ w e. absurd (let z : ◌≡◌ {A = ℕ} 0 1 = cc in omega arith);
        least = λ w e. absurd (let z : ◌≡◌ {A = ℕ} 0 1 = cc in omega arith);
        none = λ e p q r. h (p - 1) (q - 1) (puts_before es p q r).2;
        refused = (λ e. absurd (never_err None CuePair e), λ n. absurd (n two));
        only = λ f e. absurd (never_err None f e);
      }
  tells_of two es (Some v) h =
      record {
        found = λ w e. let same : v ≡ w = cc in subst (λ (u : Pair). PutsBefore alike es i j u.first u.second) same (before_puts es v.first v.second h.a h.b h.first h.second h.puts);
        least = λ w e. let same : v ≡ w = cc in subst (λ (u : Pair). (p q : ℕ) → PutsBefore alike es i j p q → (u.first < p) ⊎ ((u.first ≡ p) × (u.second ≤ q))) same (later_place es v h);
        none = λ e. absurd (let z : ◌≡◌ {A = ℕ} 0 1 = cc in omega arith);
        refused = (λ e. absurd (never_err (Some v) CuePair e), λ n. absurd (n two));
        only = λ f e. absurd (never_err (Some v) f e);
      }

  tells_refused : (AreTwoCues i j → ⊥) → (es : List (Entry K)) → Tells alike es i j (Err CuePair)
  tells_refused not_two es =
      record {
        found = λ w e. absurd (never_ok (Some w) CuePair e);
        least = λ w e. absurd (never_ok (Some w) CuePair e);
        none = λ e. absurd (never_ok None CuePair e);
        refused = (λ e. not_two, λ n. refl);
        only = λ f e. cc;
      }

  tells_either : (es : List (Entry K)) (b : Bool) → two_cues i j ≡ b → Tells alike es i j (cond b (Ok (why_of alike es i j)) (Err CuePair))
  tells_either es true h = tells_of (two_of h) es (why_of alike es i j) (first_is 1 es)
  tells_either es false h = tells_refused (λ t. both_ways (two_cues i j) h (of_two t)) es

  pub tells : (es : List (Entry K)) (r : Result (Option Pair) Refusal) → r ≡ why_answer alike es i j → Tells alike es i j r
  tells es r e = subst (Tells alike es i j) (sym e) (tells_either es (two_cues i j) refl)

  -- no two answers are right
  module _ (es : List (Entry K)) where
    one_pair : (v w : Pair) → (v.first < w.first) ⊎ ((v.first ≡ w.first) × (v.second ≤ w.second)) → (w.first < v.first) ⊎ ((w.first ≡ v.first) × (w.second ≤ v.second)) → v ≡ w
    one_pair v w (inl h) (inl k) = absurd (omega (arith, h, k))
    one_pair v w (inl h) (inr k) = absurd (omega (arith, h, k.0))
    one_pair v w (inr h) (inl k) = absurd (omega (arith, h.0, k))
    one_pair v w (inr h) (inr k) =
        let second : v.second ≡ w.second = omega (arith, h.1, k.1) in
        (λ n. record { first = h.0 n; second = second n })

    refusal_only : (f : Refusal) (o : Option Pair) → Tells alike es i j (Err f) → Tells alike es i j (Ok o) → ⊥
    refusal_only f o t u =
        let not_two = t.refused.0 (ap Err (t.only f refl)) in
        never_err o CuePair (u.refused.1 not_two)

    one_told : (r s : Result (Option Pair) Refusal) → Tells alike es i j r → Tells alike es i j s → r ≡ s
    one_told (Err f) (Err g) t u = ap Err (t.only f refl ∙ sym (u.only g refl))
    one_told (Err f) (Ok o) t u = absurd (refusal_only f o t u)
    one_told (Ok o) (Err g) t u = absurd (refusal_only g o u t)
    one_told (Ok None) (Ok None) t u = refl
    one_told (Ok None) (Ok (Some w)) t u = absurd (t.none refl w.first w.second (u.found w refl))
    one_told (Ok (Some v)) (Ok None) t u = absurd (u.none refl v.first v.second (t.found v refl))
    one_told (Ok (Some v)) (Ok (Some w)) t u =
        ap (λ (x : Pair). Ok (Some x))
        (one_pair v w (t.least v refl w.first w.second (u.found w refl)) (u.least w refl v.first v.second (t.found v refl)))

pub why_is_told_lem : (K : Type 0) → WhyIsTold K
why_is_told_lem K alike es i j r =
    let a = why_answer alike es i j in
    (λ t. one_told alike i j es r a t (tells alike i j es a refl), tells alike i j es r)

-- turns of a search entry by entry
module _ {K : Type 0} (alike : K → K → Bool) (i j : ℕ) where
  -- one turn of the search, at the entry x with index p
  abbrev turn : ℕ → Entry K → List (Entry K) → Bool → Option Pair
  turn p x es b = or_else (cond b (pair_with alike j x (p + 1) (p + 1 + 1) (drop (p + 1) es)) None) (pair_from alike i j (p + 1 + 1) (drop (p + 1) es))

  pub turn_in : (es : List (Entry K)) (p : ℕ) (x : Entry K) → p < length es → x ≡ get_or es p x → x.cue ≡ i → turn p x es true ≡ pair_from alike i j (p + 1) (drop p es)
  turn_in es p x h e t = sym (ap (pair_from alike i j (p + 1)) (drop_read es p x h e) ∙ ap (turn p x es) (eq-eqb x.cue i t))

  pub turn_past : (es : List (Entry K)) (p : ℕ) (x : Entry K) → p < length es → x ≡ get_or es p x → (x.cue ≡ i → ⊥) → pair_from alike i j (p + 1 + 1) (drop (p + 1) es) ≡ pair_from alike i j (p + 1) (drop p es)
  turn_past es p x h e t = sym (ap (pair_from alike i j (p + 1)) (drop_read es p x h e) ∙ ap (turn p x es) (ne_eqb x.cue i t))

  -- one turn of the search for an entry that answers x, at the entry y with index q
  abbrev inner : Entry K → ℕ → ℕ → List (Entry K) → Option Pair → Bool → Option Pair
  inner x p q es rest b = or_else (cond b (Some (record { first = p; second = q + 1 })) (pair_with alike j x p (q + 1 + 1) (drop (q + 1) es))) rest

  inner_step : (es : List (Entry K)) (x : Entry K) (p q : ℕ) (y : Entry K) (rest : Option Pair) (b : Bool) → q < length es → y ≡ get_or es q y → answers alike j x y ≡ b → inner x p q es rest b ≡ or_else (pair_with alike j x p (q + 1) (drop q es)) rest
  inner_step es x p q y rest b h e t = sym (ap (λ ys. or_else (pair_with alike j x p (q + 1) ys) rest) (drop_read es q y h e) ∙ ap (inner x p q es rest) t)

  pub inner_found : (es : List (Entry K)) (x : Entry K) (p q : ℕ) (y : Entry K) (rest : Option Pair) → q < length es → y ≡ get_or es q y → y.cue ≡ j → true ≡ conflict alike x y → inner x p q es rest true ≡ or_else (pair_with alike j x p (q + 1) (drop q es)) rest
  inner_found es x p q y rest h e t k = inner_step es x p q y rest true h e (and_from (eqb y.cue j) (conflict alike x y) (eq-eqb y.cue j t) (sym k))

  pub inner_other : (es : List (Entry K)) (x : Entry K) (p q : ℕ) (y : Entry K) (rest : Option Pair) → q < length es → y ≡ get_or es q y → (y.cue ≡ j → ⊥) → inner x p q es rest false ≡ or_else (pair_with alike j x p (q + 1) (drop q es)) rest
  inner_other es x p q y rest h e t = inner_step es x p q y rest false h e (and_left (eqb y.cue j) (conflict alike x y) (ne_eqb y.cue j t))

  pub inner_past : (es : List (Entry K)) (x : Entry K) (p q : ℕ) (y : Entry K) (rest : Option Pair) → q < length es → y ≡ get_or es q y → false ≡ conflict alike x y → inner x p q es rest false ≡ or_else (pair_with alike j x p (q + 1) (drop q es)) rest
  inner_past es x p q y rest h e k = inner_step es x p q y rest false h e (and_right (eqb y.cue j) (conflict alike x y) (sym k))

  pub inner_end : (es : List (Entry K)) (x : Entry K) (p q : ℕ) (rest : Option Pair) → length es ≤ q → rest ≡ or_else (pair_with alike j x p (q + 1) (drop q es)) rest
  inner_end es x p q rest h = sym (ap (λ o. or_else o rest) (at_drop_all (pair_with alike j x p (q + 1)) es q h))

  pub outer_end : (es : List (Entry K)) (p : ℕ) → length es ≤ p → None ≡ pair_from alike i j (p + 1) (drop p es)
  outer_end es p h = sym (at_drop_all (pair_from alike i j (p + 1)) es p h)

  abbrev answer : List (Entry K) → Bool → Result (Option Pair) Refusal
  answer es b = cond b (Ok (why_of alike es i j)) (Err CuePair)

  pub answered : (es : List (Entry K)) (o : Option Pair) → true ≡ two_cues i j → o ≡ why_of alike es i j → Ok o ≡ why_answer alike es i j
  answered es o t e = ap Ok e ∙ ap (answer es) t

  pub refused : (es : List (Entry K)) → false ≡ two_cues i j → Err CuePair ≡ why_answer alike es i j
  refused es t = ap (answer es) t
