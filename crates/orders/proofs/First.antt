-- The first that passes among all orders, and what holds of each order. Assumes nothing.
use Rattle.std.proofs.Common.{◌≡◌, ℕ, zero, suc, ◌+◌, ◌<◌, ◌≤◌, Bool, true, false, not, eqb, List, [], ◌∷◌, ◌++◌, map, length, Some, None, filter, sym, refl, ◌∙◌, inl, inr, arith}
use Rattle.std.specs.List.{range_with_len, flat_map, AllByRecursion as All}
use Rattle.std.proofs.ByRecursion.{All-append, All-weaker, All-map, all_kept_by}
use Rattle.std.proofs.lemmas.Bool.{eq-eqb, ne_eqb, cases_Bool, cases_eq}
use Rattle.orders.specs.Orders.{among, without, first_where, orders_of}
use Rattle.orders.specs.Least.{Stands}
use Rattle.orders.proofs.Among.{kept_short}

module _ {X : Type 0} (p : X → Bool) where
  first_left : (xs ys : List X) (r : X) → first_where p xs ≡ Some r → first_where p (xs ++ ys) ≡ Some r
  first_left [] ys r h = absurd (let z : ◌≡◌ {A = ℕ} 0 1 = cc in omega arith)
  first_left (x ∷ xs) ys r h =
      elim (cases_Bool (p x)) [
        | inl t ↦ let k : Some x ≡ Some r = rw t at h in rw t k
        | inr f ↦ let k : first_where p xs ≡ Some r = rw f at h in rw f (first_left xs ys r k)
      ]

  first_right : (xs ys : List X) → first_where p xs ≡ None → first_where p (xs ++ ys) ≡ first_where p ys
  first_right [] ys h = refl
  first_right (x ∷ xs) ys h =
      elim (cases_Bool (p x)) [
        | inl t ↦ let k : Some x ≡ None = rw t at h in absurd (let z : ◌≡◌ {A = ℕ} 0 1 = cc in omega arith)
        | inr f ↦ let k : first_where p xs ≡ None = rw f at h in rw f (first_right xs ys k)
      ]

  pub first_none : (xs : List X) → All (λ x. p x ≡ false) xs → first_where p xs ≡ None
  first_none [] h = refl
  first_none (x ∷ xs) h = rw h.0 (first_none xs h.1)

  -- the groups before x's have none that passes
  first_joined : (f : ℕ → List X) (U : ℕ → Bool) (x : ℕ) (r : X) → U x ≡ true → first_where p (f x) ≡ Some r → (a n : ℕ) → a ≤ x → x < a + n → ((z : ℕ) → a ≤ z → z < x → U z ≡ true → first_where p (f z) ≡ None) → first_where p (flat_map f (filter U (range_with_len a n))) ≡ Some r
  first_joined f U x r ux fx a zero l h none = absurd (omega arith)
  first_joined f U x r ux fx a (suc n) l h none =
      elim (cases_eq a x) [
        | inl e ↦
            let ua : U a ≡ true = rw e ux in
            let fa : first_where p (f a) ≡ Some r = rw e fx in
            rw ua (first_left (f a) (flat_map f (filter U (range_with_len (a + 1) n))) r fa)
        | inr ne ↦
            let ih : first_where p (flat_map f (filter U (range_with_len (a + 1) n))) ≡ Some r = first_joined f U x r ux fx (a + 1) n (omega arith) (omega arith) (λ z q w. none z (omega arith) w) in
            elim (cases_Bool (U a)) [
              | inl t ↦ rw t (first_right (f a) (flat_map f (filter U (range_with_len (a + 1) n))) (none a (omega arith) (omega arith) t) ∙ ih)
              | inr g ↦ rw g ih
            ]
      ]

pub first_among : {X : Type 0} (p : X → Bool) (f : ℕ → List X) (U : ℕ → Bool) (x : ℕ) (r : X) → U x ≡ true → first_where p (f x) ≡ Some r → 1 ≤ x → x ≤ 64 → ((z : ℕ) → 1 ≤ z → z < x → U z ≡ true → first_where p (f z) ≡ None) → first_where p (flat_map f (among U)) ≡ Some r
unfolding among
first_among p f U x r ux fx l h none = first_joined p f U x r ux fx 1 64 l (omega arith) none

pub all_join : {X : Type 0} (P : X → Type 0) (f : ℕ → List X) (us : List ℕ) → All (λ u. All P (f u)) us → All P (flat_map f us)
all_join P f [] h = tt
all_join P f (u ∷ us) h = All-append P (f u) (flat_map f us) h.0 (all_join P f us h.1)

-- what holds of each number holds of each number of each order
pub all_orders : (P : ℕ → Type 0) (n : ℕ) (us : List ℕ) → All P us → All (All P) (orders_of n us)
all_orders P zero us h = (tt, tt)
all_orders P (suc n) us h =
    all_join (All P) (λ x. map (λ o. x ∷ o) (orders_of n (without x us))) us
    (All-weaker P (λ x. All (All P) (map (λ o. x ∷ o) (orders_of n (without x us))))
    (λ x px. All-map (All P) (λ o. x ∷ o) (orders_of n (without x us)) (All-weaker (All P) (λ o. P x × All P o) (λ o h2. (px, h2)) (orders_of n (without x us)) (all_orders P n (without x us) (all_kept_by (λ y. not (eqb y x)) P us h))))
    us h)

pub all_mem : (us : List ℕ) → All (λ u. Stands u us) us
all_mem [] = tt
all_mem (u ∷ us) = (inl refl, All-weaker (λ v. Stands v us) (λ v. Stands v (u ∷ us)) (λ v h. inr h) us (all_mem us))

pub without_lt : (x : ℕ) (us : List ℕ) → Stands x us → length (without x us) < length us
without_lt x [] h = absurd h
without_lt x (u ∷ us) (inl e) =
    let le : length (without x us) ≤ length us = kept_short (λ y. not (eqb y x)) us in
    let t : eqb u x ≡ true = eq-eqb u x e in rw t (omega (arith, le))
without_lt x (u ∷ us) (inr h) =
    let ih : length (without x us) < length us = without_lt x us h in
    elim (cases_Bool (eqb u x)) [ inl t ↦ rw t (omega (arith, ih)) | inr f ↦ rw f (omega (arith, ih)) ]

pub mem_without : (x m : ℕ) (us : List ℕ) → (m ≡ x → ⊥) → Stands m us → Stands m (without x us)
mem_without x m [] ne h = absurd h
mem_without x m (u ∷ us) ne (inl e) =
    let f : eqb u x ≡ false = ne_eqb u x (λ w. ne (sym e ∙ w)) in rw f (inl e)
mem_without x m (u ∷ us) ne (inr h) =
    let ih : Stands m (without x us) = mem_without x m us ne h in
    elim (cases_Bool (eqb u x)) [ inl t ↦ rw t ih | inr f ↦ rw f (inr ih) ]

-- each order has every number
abbrev pub Full : List ℕ → List ℕ → Type 0
Full us o = (m : ℕ) → Stands m us → Stands m o

pub complete : (n : ℕ) (us : List ℕ) → length us ≤ n → All (Full us) (orders_of n us)
complete zero [] h = (λ m k. k, tt)
complete zero (u ∷ us) h = absurd (omega arith)
complete (suc n) us h =
    all_join (Full us) (λ x. map (λ o. x ∷ o) (orders_of n (without x us))) us
    (All-weaker (λ x. Stands x us) (λ x. All (Full us) (map (λ o. x ∷ o) (orders_of n (without x us))))
    (λ x mx.
    let short : length (without x us) < length us = without_lt x us mx in
    All-map (Full us) (λ o. x ∷ o) (orders_of n (without x us))
    (All-weaker (Full (without x us)) (λ o. Full us (x ∷ o)) (λ o full m hm. elim (cases_eq m x) [ inl e ↦ inl (sym e) | inr ne ↦ inr (full m (mem_without x m us ne hm)) ])
    (orders_of n (without x us)) (complete n (without x us) (omega arith))))
    us (all_mem us))
