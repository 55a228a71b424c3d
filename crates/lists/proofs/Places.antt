-- Tests of a list's elements and of its pairs, by the index at which each stands.
use Rattle.std.proofs.Common.{◌≡◌, ℕ, zero, suc, ◌+◌, ◌<◌, Bool, true, false, cond, List, [], ◌∷◌, take, Some, None, Option, sym, refl, ap, ◌∙◌, inl, inr, arith}
use Rattle.std.specs.List.{slice_get}
use Rattle.std.proofs.lemmas.Bool.{false≢true, and_from, and_parts, or_cases, or_left, or_right}
use Rattle.lists.specs.Lists.{every, some, every_pair, some_pair, or_else, last_where, placed}

module _ {X : Type 0} where
  -- what stands in a front stands in the whole
  pub get_front : (n : ℕ) (xs : List X) (i : ℕ) (x : X) → slice_get (take n xs) i ≡ Some x → (i < n) × (slice_get xs i ≡ Some x)
  get_front zero xs i x h = cc
  get_front (suc n) [] i x h = cc
  get_front (suc n) (y ∷ ys) zero x h = (omega arith, h)
  get_front (suc n) (y ∷ ys) (suc i) x h = let r = get_front n ys i x h in (omega (arith, r.0), r.1)

  pub front_get : (n : ℕ) (xs : List X) (i : ℕ) (x : X) → i < n → slice_get xs i ≡ Some x → slice_get (take n xs) i ≡ Some x
  front_get zero xs i x l h = absurd (omega arith)
  front_get (suc n) [] i x l h = h
  front_get (suc n) (y ∷ ys) zero x l h = h
  front_get (suc n) (y ∷ ys) (suc i) x l h = front_get n ys i x (omega arith) h

  pub some_at : (test : X → Bool) (xs : List X) → some test xs ≡ true → (i : ℕ) × (x : X) × (slice_get xs i ≡ Some x) × (test x ≡ true)
  some_at test [] h = absurd (false≢true h)
  some_at test (x ∷ xs) h =
      elim (or_cases (test x) (some test xs) h) [ inl t ↦ (0, x, refl, t) | inr k ↦ let r = some_at test xs k in (suc r.0, r.1, r.2, r.3) ]

  pub at_some : (test : X → Bool) (xs : List X) (i : ℕ) (x : X) → slice_get xs i ≡ Some x → test x ≡ true → some test xs ≡ true
  at_some test [] i x h t = cc
  at_some test (y ∷ ys) zero x h t = let e : y ≡ x = cc in or_left (test y) (some test ys) (ap test e ∙ t)
  at_some test (y ∷ ys) (suc i) x h t = or_right (test y) (some test ys) (at_some test ys i x h t)

  every_at : (test : X → Bool) (xs : List X) (i : ℕ) (x : X) → every test xs ≡ true → slice_get xs i ≡ Some x → test x ≡ true
  every_at test [] i x h g = cc
  every_at test (y ∷ ys) zero x h g = let e : y ≡ x = cc in sym (ap test e) ∙ (and_parts (test y) (every test ys) h).0
  every_at test (y ∷ ys) (suc i) x h g = every_at test ys i x (and_parts (test y) (every test ys) h).1 g

  at_every : (test : X → Bool) (xs : List X) → ((i : ℕ) (x : X) → slice_get xs i ≡ Some x → test x ≡ true) → every test xs ≡ true
  at_every test [] f = refl
  at_every test (y ∷ ys) f = and_from (test y) (every test ys) (f 0 y refl) (at_every test ys (λ i x g. f (suc i) x g))

  -- each two, by their indices
  pub every_pair_at : (test : X → X → Bool) (xs : List X) (i j : ℕ) (x y : X) → every_pair test xs ≡ true → i < j → slice_get xs i ≡ Some x → slice_get xs j ≡ Some y → test x y ≡ true
  every_pair_at test [] i j x y h l gi gj = cc
  every_pair_at test (z ∷ zs) i zero x y h l gi gj = absurd (omega arith)
  every_pair_at test (z ∷ zs) zero (suc j) x y h l gi gj =
      let e : z ≡ x = cc in
      ap (λ (a : X). test a y) (sym e) ∙ every_at (test z) zs j y (and_parts (every (test z) zs) (every_pair test zs) h).0 gj
  every_pair_at test (z ∷ zs) (suc i) (suc j) x y h l gi gj =
      every_pair_at test zs i j x y (and_parts (every (test z) zs) (every_pair test zs) h).1 (omega arith) gi gj

  pub at_every_pair : (test : X → X → Bool) (xs : List X) → ((i j : ℕ) (x y : X) → i < j → slice_get xs i ≡ Some x → slice_get xs j ≡ Some y → test x y ≡ true) → every_pair test xs ≡ true
  at_every_pair test [] f = refl
  at_every_pair test (z ∷ zs) f =
      and_from (every (test z) zs) (every_pair test zs)
      (at_every (test z) zs (λ j y g. f 0 (suc j) z y (omega arith) refl g))
      (at_every_pair test zs (λ i j x y l gi gj. f (suc i) (suc j) x y (omega arith) gi gj))

  pub some_pair_at : (test : X → X → Bool) (xs : List X) → some_pair test xs ≡ true → (i : ℕ) × (j : ℕ) × (x : X) × (y : X) × (i < j) × (slice_get xs i ≡ Some x) × (slice_get xs j ≡ Some y) × (test x y ≡ true)
  some_pair_at test [] h = absurd (false≢true h)
  some_pair_at test (z ∷ zs) h =
      elim (or_cases (some (test z) zs) (some_pair test zs) h) [
        | inl here ↦ let r = some_at (test z) zs here in (0, suc r.0, z, r.1, omega arith, refl, r.2, r.3)
        | inr later ↦ let r = some_pair_at test zs later in (suc r.0, suc r.1, r.2, r.3, omega (arith, r.4), r.5, r.6, r.7)
      ]

  pub at_some_pair : (test : X → X → Bool) (xs : List X) (i j : ℕ) (x y : X) → i < j → slice_get xs i ≡ Some x → slice_get xs j ≡ Some y → test x y ≡ true → some_pair test xs ≡ true
  at_some_pair test [] i j x y l gi gj t = cc
  at_some_pair test (z ∷ zs) i zero x y l gi gj t = absurd (omega arith)
  at_some_pair test (z ∷ zs) zero (suc j) x y l gi gj t =
      let e : z ≡ x = cc in
      or_left (some (test z) zs) (some_pair test zs) (at_some (test z) zs j y gj (ap (λ (a : X). test a y) e ∙ t))
  at_some_pair test (z ∷ zs) (suc i) (suc j) x y l gi gj t =
      or_right (some (test z) zs) (some_pair test zs) (at_some_pair test zs i j x y (omega arith) gi gj t)

or_none : {Y : Type 0} (a b : Option Y) → or_else a b ≡ None → (a ≡ None) × (b ≡ None)
or_none None b h = (refl, h)
or_none (Some y) b h = cc

cond_none : {Y : Type 0} (t : Bool) (y : Y) → cond t (Some y) None ≡ None → t ≡ false
cond_none true y h = cc
cond_none false y h = refl

cond_some : {Y : Type 0} (t : Bool) (y z : Y) → cond t (Some y) None ≡ Some z → (t ≡ true) × (y ≡ z)
cond_some true y z h = (refl, cc)
cond_some false y z h = cc

-- the last that passes, by its place, where places are counted from p on
module _ {X : Type 0} (test : X → Bool) where
  abbrev last_of : ℕ → List X → Option (ℕ × X)
  last_of p xs = last_where (λ q. test q.1) (placed p xs)

  pub record LastAt (p : ℕ) (xs : List X) (r : ℕ × X) : Type 0 where
    pub index : ℕ
    pub place : r.0 ≡ p + index
    pub element : slice_get xs index ≡ Some r.1
    pub passes : test r.1 ≡ true
    pub last : (j : ℕ) (y : X) → index < j → slice_get xs j ≡ Some y → test y ≡ false

  none_at : (p : ℕ) (xs : List X) → last_of p xs ≡ None → (i : ℕ) (x : X) → slice_get xs i ≡ Some x → test x ≡ false
  none_at p [] h i x g = cc
  none_at p (y ∷ ys) h zero x g =
      let e : y ≡ x = cc in
      sym (ap test e) ∙ cond_none (test y) (p, y) (or_none (last_of (suc p) ys) (cond (test y) (Some (p, y)) None) h).1
  none_at p (y ∷ ys) h (suc i) x g =
      none_at (suc p) ys (or_none (last_of (suc p) ys) (cond (test y) (Some (p, y)) None) h).0 i x g

  at_none : (p : ℕ) (xs : List X) → ((i : ℕ) (x : X) → slice_get xs i ≡ Some x → test x ≡ false) → last_of p xs ≡ None
  at_none p [] f = refl
  at_none p (y ∷ ys) f =
      let later : last_of (suc p) ys ≡ None = at_none (suc p) ys (λ i x g. f (suc i) x g) in
      let here : test y ≡ false = f 0 y refl in
      (λ i. or_else (later i) (cond (here i) (Some (p, y)) None))

  pub last_at : (p : ℕ) (xs : List X) (r : ℕ × X) → last_of p xs ≡ Some r → LastAt p xs r
  last_at p [] r h = cc
  last_at p (y ∷ ys) r h = go (λ k. last_at (suc p) ys r k) (last_of (suc p) ys) refl h
    where
      after : (x : X) → ((j : ℕ) (z : X) → slice_get ys j ≡ Some z → test z ≡ false) → (j : ℕ) (z : X) → 0 < j → slice_get (y ∷ ys) j ≡ Some z → test z ≡ false
      after x f zero z l g = absurd (omega arith)
      after x f (suc j) z l g = f j z g

      onward : (i : ℕ) → ((j : ℕ) (z : X) → i < j → slice_get ys j ≡ Some z → test z ≡ false) → (j : ℕ) (z : X) → suc i < j → slice_get (y ∷ ys) j ≡ Some z → test z ≡ false
      onward i f zero z l g = absurd (omega arith)
      onward i f (suc j) z l g = f j z (omega arith) g

      go : (last_of (suc p) ys ≡ Some r → LastAt (suc p) ys r) → (o : Option (ℕ × X)) → last_of (suc p) ys ≡ o → or_else o (cond (test y) (Some (p, y)) None) ≡ Some r → LastAt p (y ∷ ys) r
      go rest None e k =
          let c = cond_some (test y) (p, y) r k in
          let num : p ≡ r.0 = ap (λ (q : ℕ × X). q.0) c.1 in
          let same : y ≡ r.1 = ap (λ (q : ℕ × X). q.1) c.1 in
          record {
            index = 0;
            place = omega (arith, num);
            element = ap Some same;
            passes = sym (ap test same) ∙ c.0;
            last = after y (none_at (suc p) ys e);
          }
      go rest (Some q) e k =
          let ih = rest (e ∙ k) in
          record {
            index = suc ih.index;
            place = omega (arith, ih.place);
            element = ih.element;
            passes = ih.passes;
            last = onward ih.index ih.last;
          }

  pub at_last : (p : ℕ) (xs : List X) (i : ℕ) (x : X) → slice_get xs i ≡ Some x → test x ≡ true → ((j : ℕ) (y : X) → i < j → slice_get xs j ≡ Some y → test y ≡ false) → last_of p xs ≡ Some (p + i, x)
  at_last p [] i x g t f = cc
  at_last p (y ∷ ys) zero x g t f =
      let e : y ≡ x = cc in
      let later : last_of (suc p) ys ≡ None = at_none (suc p) ys (λ j z h. f (suc j) z (omega arith) h) in
      let here : test y ≡ true = ap test e ∙ t in
      let num : p ≡ p + 0 = omega arith in
      (λ i. or_else (later i) (cond (here i) (Some (p, y)) None)) ∙ (λ i. Some (num i, e i))
  at_last p (y ∷ ys) (suc i) x g t f =
      let ih = at_last (suc p) ys i x g t (λ j z l h. f (suc j) z (omega arith) h) in
      let num : suc p + i ≡ p + suc i = omega arith in
      ap (λ (o : Option (ℕ × X)). or_else o (cond (test y) (Some (p, y)) None)) ih ∙ (λ j. Some (num j, x))
