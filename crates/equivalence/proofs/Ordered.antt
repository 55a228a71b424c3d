-- Lists whose elements stand in an order, and the last element that passes a test. Assumes nothing.
use Rattle.std.proofs.Common.{◌≡◌, ℕ, suc, ◌<◌, ◌≤◌, Bool, true, false, cond, not, ◌||◌, ◌⊎◌, List, [], ◌∷◌, ◌++◌, Some, None, filter, Option, sym, refl, ap, ◌∙◌, subst, inl, inr, ⊎_elim, arith}
use Rattle.std.proofs.lemmas.Bool.{both_ways, cond_both, and_parts, and_from, or_parts, or_from}
use Rattle.lists.specs.Lists.{every, some, every_pair, last_where, or_else, placed}
use Rattle.orders.specs.Least.{Stands}
use Rattle.equivalence.proofs.Standing.{stands_either}

-- tests
pub imp_of : (a b : Bool) → (not a || b) ≡ true → a ≡ true → b ≡ true
imp_of true b h e = h
imp_of false b h e = absurd (both_ways false refl e)

pub imp_from : (a b : Bool) → (a ≡ true → b ≡ true) → (not a || b) ≡ true
imp_from true b h = h refl
imp_from false b h = refl

pub same_bool : (a b : Bool) → (a ≡ true → b ≡ true) → (b ≡ true → a ≡ true) → a ≡ b
same_bool true b f g = sym (f refl)
same_bool false true f g = g refl
same_bool false false f g = refl

module _ {X : Type 0} where
  pub every_of : (test : X → Bool) (xs : List X) → every test xs ≡ true → (x : X) → Stands x xs → test x ≡ true
  every_of test [] h x m = absurd m
  every_of test (y ∷ ys) h x (inl e) = subst (λ z. test z ≡ true) e (and_parts (test y) (every test ys) h).0
  every_of test (y ∷ ys) h x (inr m) = every_of test ys (and_parts (test y) (every test ys) h).1 x m

  pub every_from : (test : X → Bool) (xs : List X) → ((x : X) → Stands x xs → test x ≡ true) → every test xs ≡ true
  every_from test [] h = refl
  every_from test (y ∷ ys) h = and_from (test y) (every test ys) (h y (inl refl)) (every_from test ys (λ x m. h x (inr m)))

  pub every_same : (f g : X → Bool) (xs : List X) → ((x : X) → Stands x xs → f x ≡ g x) → every f xs ≡ every g xs
  every_same f g [] h = refl
  every_same f g (y ∷ ys) h = let e = h y (inl refl) in let i = every_same f g ys (λ x m. h x (inr m)) in cc

  pub some_of : (test : X → Bool) (xs : List X) → some test xs ≡ false → (x : X) → Stands x xs → test x ≡ false
  some_of test [] h x m = absurd m
  some_of test (y ∷ ys) h x (inl e) = subst (λ z. test z ≡ false) e (or_parts (test y) (some test ys) h).0
  some_of test (y ∷ ys) h x (inr m) = some_of test ys (or_parts (test y) (some test ys) h).1 x m

  pub some_from : (test : X → Bool) (xs : List X) → ((x : X) → Stands x xs → test x ≡ false) → some test xs ≡ false
  some_from test [] h = refl
  some_from test (y ∷ ys) h = or_from (test y) (some test ys) (h y (inl refl)) (some_from test ys (λ x m. h x (inr m)))

  -- what is kept
  pub kept_of : (test : X → Bool) (xs : List X) (x : X) → Stands x (filter test xs) → Stands x xs × (test x ≡ true)
  kept_of test [] x h = absurd h
  kept_of test (y ∷ ys) x h =
      cond_both (test y) (y ∷ filter test ys) (filter test ys) (λ l. Stands x l → Stands x (y ∷ ys) × (test x ≡ true))
      (λ b m. ⊎_elim (λ e. (inl e, subst (λ z. test z ≡ true) e b)) (λ k. let r = kept_of test ys x k in (inr r.0, r.1)) m)
      (λ b m. let r = kept_of test ys x m in (inr r.0, r.1)) h

  pub kept_from : (test : X → Bool) (xs : List X) (x : X) → Stands x xs → test x ≡ true → Stands x (filter test xs)
  kept_from test [] x h t = absurd h
  kept_from test (y ∷ ys) x h t =
      cond_both (test y) (y ∷ filter test ys) (filter test ys) (λ l. Stands x l)
      (λ b. ⊎_elim (λ e. inl e) (λ k. inr (kept_from test ys x k t)) h)
      (λ b. ⊎_elim (λ e. absurd (both_ways (test y) b (subst (λ z. test z ≡ true) (sym e) t))) (λ k. kept_from test ys x k t) h)

  -- no two stand in R both ways
  abbrev pub Apart : (X → X → Type 0) → Type 0
  Apart R = (x y : X) → R x y → R y x → ⊥

  -- each element stands in R to those after it
  abbrev pub Ordered : (X → X → Type 0) → List X → Type 0
  Ordered R [] = Unit {0}
  Ordered R (x ∷ xs) = ((y : X) → Stands y xs → R x y) × Ordered R xs

  pub ordered_kept : (R : X → X → Type 0) (test : X → Bool) (xs : List X) → Ordered R xs → Ordered R (filter test xs)
  ordered_kept R test [] u = tt
  ordered_kept R test (y ∷ ys) u =
      let ih = ordered_kept R test ys u.1 in
      cond_both (test y) (y ∷ filter test ys) (filter test ys) (Ordered R) (λ b. (λ z m. u.0 z (kept_of test ys z m).0, ih)) (λ b. ih)

  pub ordered_append : (R : X → X → Type 0) (xs ys : List X) → Ordered R xs → Ordered R ys → ((x y : X) → Stands x xs → Stands y ys → R x y) → Ordered R (xs ++ ys)
  ordered_append R [] ys s t h = t
  ordered_append R (x ∷ xs) ys s t h =
      (λ z m. ⊎_elim (s.0 z) (h x z (inl refl)) (stands_either z xs ys m), ordered_append R xs ys s.1 t (λ u y m. h u y (inr m)))

  pub ordered_turn : (R S : X → X → Type 0) (xs : List X) → ((x y : X) → Stands x xs → Stands y xs → R x y → S x y) → Ordered R xs → Ordered S xs
  ordered_turn R S [] f u = tt
  ordered_turn R S (x ∷ xs) f u = (λ y m. f x y (inl refl) (inr m) (u.0 y m), ordered_turn R S xs (λ a b m n. f a b (inr m) (inr n)) u.1)

  -- the answer is the last by R of those with P, or says that there is none
  abbrev pub Last : (X → X → Type 0) → (X → Type 0) → Option X → Type 0
  Last R P None = (x : X) → P x → ⊥
  Last R P (Some s) = P s × ((x : X) → P x → (x ≡ s) ⊎ R x s)

  pub last_is : (R : X → X → Type 0) (test : X → Bool) (xs : List X) → Ordered R xs → Last R (λ x. Stands x xs × (test x ≡ true)) (last_where test xs)
  last_is R test [] u = λ x h. h.0
  last_is R test (y ∷ ys) u = go (last_where test ys) (last_is R test ys u.1)
    where
      go : (a : Option X) → Last R (λ x. Stands x ys × (test x ≡ true)) a → Last R (λ x. Stands x (y ∷ ys) × (test x ≡ true)) (or_else a (cond (test y) (Some y) None))
      go (Some s) l = ((inr l.0.0, l.0.1), λ x m. ⊎_elim (λ e. inr (subst (λ z. R z s) e (u.0 s l.0.0))) (λ k. l.1 x (k, m.1)) m.0)
      go None l =
          cond_both (test y) (Some y) None (Last R (λ x. Stands x (y ∷ ys) × (test x ≡ true)))
          (λ b. ((inl refl, b), λ x m. ⊎_elim (λ e. inl (sym e)) (λ k. absurd (l x (k, m.1))) m.0))
          (λ b x m. ⊎_elim (λ e. both_ways (test y) b (subst (λ z. test z ≡ true) (sym e) m.1)) (λ k. l x (k, m.1)) m.0)

  pub last_same : (R : X → X → Type 0) (P : X → Type 0) → Apart R → (a b : Option X) → Last R P a → Last R P b → a ≡ b
  last_same R P d None None l m = refl
  last_same R P d None (Some t) l m = absurd (l t m.0)
  last_same R P d (Some s) None l m = absurd (m s l.0)
  last_same R P d (Some s) (Some t) l m =
      ⊎_elim (λ e. ap Some (sym e)) (λ p. ⊎_elim (λ e. ap Some e) (λ q. absurd (d s t q p)) (m.1 s l.0)) (l.1 t m.0)

  pub last_turn : (R S : X → X → Type 0) (P Q : X → Type 0) → ((x : X) → P x → Q x) → ((x : X) → Q x → P x) → ((x y : X) → P x → P y → R x y → S x y) → (a : Option X) → Last R P a → Last S Q a
  last_turn R S P Q f g h None l = λ x m. l x (g x m)
  last_turn R S P Q f g h (Some s) l = (f s l.0, λ x m. ⊎_elim inl (λ r. inr (h x s (g x m) l.0 r)) (l.1 x (g x m)))

-- elements by their places
module _ {X : Type 0} where
  pub placed_from : (n : ℕ) (xs : List X) (p : ℕ × X) → Stands p (placed n xs) → (n ≤ p.0) × Stands p.1 xs
  placed_from n [] p h = absurd h
  placed_from n (x ∷ xs) p (inl e) = subst (λ (q : ℕ × X). (n ≤ q.0) × Stands q.1 (x ∷ xs)) e (omega arith, inl refl)
  placed_from n (x ∷ xs) p (inr h) = let r = placed_from (suc n) xs p h in (omega (arith, r.0), inr r.1)

  pub placed_rise : (n : ℕ) (xs : List X) → Ordered (λ p q. p.0 < q.0) (placed n xs)
  placed_rise n [] = tt
  placed_rise n (x ∷ xs) = (λ q h. (placed_from (suc n) xs q h).0, placed_rise (suc n) xs)

  pub placed_pair : (test : X → X → Bool) (n : ℕ) (xs : List X) → every_pair test xs ≡ true → (p q : ℕ × X) → Stands p (placed n xs) → Stands q (placed n xs) → p.0 < q.0 → test p.1 q.1 ≡ true
  placed_pair test n [] h p q i j l = absurd i
  placed_pair test n (x ∷ xs) h p q (inl e) (inl f) l = absurd (omega (arith, ap (λ (z : ℕ × X). z.0) e, ap (λ (z : ℕ × X). z.0) f))
  placed_pair test n (x ∷ xs) h p q (inr i) (inl f) l = absurd (omega (arith, (placed_from (suc n) xs p i).0, ap (λ (z : ℕ × X). z.0) f))
  placed_pair test n (x ∷ xs) h p q (inl e) (inr j) l =
      subst (λ (z : ℕ × X). test z.1 q.1 ≡ true) e (every_of (test x) xs (and_parts (every (test x) xs) (every_pair test xs) h).0 q.1 (placed_from (suc n) xs q j).1)
  placed_pair test n (x ∷ xs) h p q (inr i) (inr j) l = placed_pair test (suc n) xs (and_parts (every (test x) xs) (every_pair test xs) h).1 p q i j l

  -- in a list that rises by place, a place names one element
  pub place_names : (xs : List (ℕ × X)) → Ordered (λ p q. p.0 < q.0) xs → (x y : ℕ × X) → Stands x xs → Stands y xs → x.0 ≡ y.0 → x ≡ y
  place_names [] u x y i j e = absurd i
  place_names (z ∷ zs) u x y (inl a) (inl b) e = sym a ∙ b
  place_names (z ∷ zs) u x y (inl a) (inr j) e = absurd (omega (arith, u.0 y j, ap (λ (v : ℕ × X). v.0) a))
  place_names (z ∷ zs) u x y (inr i) (inl b) e = absurd (omega (arith, u.0 x i, ap (λ (v : ℕ × X). v.0) b))
  place_names (z ∷ zs) u x y (inr i) (inr j) e = place_names zs u.1 x y i j e
