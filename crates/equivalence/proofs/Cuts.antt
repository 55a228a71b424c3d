-- A list cut at one of its elements, by places. Assumes nothing.
use Rattle.std.proofs.Common.{◌≡◌, ℕ, suc, ◌<◌, Bool, true, ◌⊎◌, List, [], ◌∷◌, ◌++◌, sym, refl, ap, ◌∙◌, subst, inl, inr, append_assoc, append-nil, arith}
use Rattle.std.proofs.lemmas.Bool.{false≢true, or_cases, or_left, or_right}
use Rattle.lists.specs.Lists.{placed}
use Rattle.orders.specs.Least.{Stands}
use Rattle.equivalence.specs.Constraints.{amid}
use Rattle.equivalence.proofs.Standing.{stands_left, stands_right, stands_either}
use Rattle.equivalence.proofs.Ordered.{Ordered, placed_rise}

module _ {X : Type 0} where
  -- p stands after before and in front of after
  abbrev pub Cut : ℕ → List X → ℕ × X → List X → List X → Type 0
  Cut n xs p before after = placed n xs ≡ placed n before ++ p ∷ placed (suc p.0) after

  pub amid_cut : (test : List X → X → List X → Bool) (n : ℕ) (seen xs : List X) → amid test seen xs ≡ true → (p : ℕ × X) × (before : List X) × (after : List X) × Cut n xs p before after × (test (seen ++ before) p.1 after ≡ true)
  amid_cut test n seen [] h = absurd (false≢true h)
  amid_cut test n seen (x ∷ xs) h =
      elim (or_cases (test seen x xs) (amid test (seen ++ x ∷ []) xs) h) [
        | inl here ↦ ((n, x), [], xs, refl, ap (λ (l : List X). test l x xs) (append-nil seen) ∙ here)
        | inr later ↦
            let r = amid_cut test (suc n) (seen ++ x ∷ []) xs later in
            (r.0, x ∷ r.1, r.2, ap (λ (l : List (ℕ × X)). (n, x) ∷ l) r.3, ap (λ (l : List X). test l r.0.1 r.2) (sym (append_assoc seen (x ∷ []) r.1)) ∙ r.4)
      ]

  pub cut_amid : (n : ℕ) (xs : List X) (p : ℕ × X) → Stands p (placed n xs) → (before : List X) × (after : List X) × Cut n xs p before after × ((test : List X → X → List X → Bool) (seen : List X) → test (seen ++ before) p.1 after ≡ true → amid test seen xs ≡ true)
  cut_amid n [] p h = absurd h
  cut_amid n (x ∷ xs) p (inl e) = (
    [],
    xs,
    ap (λ (q : ℕ × X). q ∷ placed (suc q.0) xs) e,
    λ test seen t. or_left (test seen x xs) (amid test (seen ++ x ∷ []) xs)
        (ap (λ (q : ℕ × X). test seen q.1 xs) e ∙ ap (λ (l : List X). test l p.1 xs) (sym (append-nil seen)) ∙ t),
  )
  cut_amid n (x ∷ xs) p (inr h) =
      let r = cut_amid (suc n) xs p h in (
        x ∷ r.0,
        r.1,
        ap (λ (l : List (ℕ × X)). (n, x) ∷ l) r.2,
        λ test seen t. or_right (test seen x xs) (amid test (seen ++ x ∷ []) xs)
            (r.3 test (seen ++ x ∷ []) (ap (λ (l : List X). test l p.1 r.1) (append_assoc seen (x ∷ []) r.0) ∙ t)),
      )

  ordered_across : (R : X → X → Type 0) (xs ys : List X) → Ordered R (xs ++ ys) → (x y : X) → Stands x xs → Stands y ys → R x y
  ordered_across R [] ys u x y i j = absurd i
  ordered_across R (z ∷ xs) ys u x y (inl e) j = subst (λ (v : X). R v y) e (u.0 y (stands_right y xs ys j))
  ordered_across R (z ∷ xs) ys u x y (inr i) j = ordered_across R xs ys u.1 x y i j

  ordered_right : (R : X → X → Type 0) (xs ys : List X) → Ordered R (xs ++ ys) → Ordered R ys
  ordered_right R [] ys u = u
  ordered_right R (z ∷ xs) ys u = ordered_right R xs ys u.1

-- what stands on each side has its place there
module _ {X : Type 0} (n : ℕ) (xs : List X) (p : ℕ × X) (before after : List X) (cut : Cut n xs p before after) where
  abbrev Rises : ℕ × X → ℕ × X → Type 0
  Rises x y = x.0 < y.0

  rises : Ordered Rises (placed n before ++ p ∷ placed (suc p.0) after)
  rises = subst (Ordered Rises) cut (placed_rise n xs)

  into : (x : ℕ × X) → Stands x (placed n before ++ p ∷ placed (suc p.0) after) → Stands x (placed n xs)
  into x m = subst (λ (l : List (ℕ × X)). Stands x l) (sym cut) m

  -- where x stands in the list
  part : (x : ℕ × X) → Stands x (placed n xs) → Stands x (placed n before) ⊎ ((p ≡ x) ⊎ Stands x (placed (suc p.0) after))
  part x m = stands_either x (placed n before) (p ∷ placed (suc p.0) after) (subst (λ (l : List (ℕ × X)). Stands x l) cut m)

  under_p : (x : ℕ × X) → Stands x (placed n before) → x.0 < p.0
  under_p x m = ordered_across Rises (placed n before) (p ∷ placed (suc p.0) after) rises x p m (inl refl)

  over_p : (x : ℕ × X) → Stands x (placed (suc p.0) after) → p.0 < x.0
  over_p x m = (ordered_right Rises (placed n before) (p ∷ placed (suc p.0) after) rises).0 x m

  pub cut_stands : Stands p (placed n xs)
  cut_stands = into p (stands_right p (placed n before) (p ∷ placed (suc p.0) after) (inl refl))

  pub before_stands : (x : ℕ × X) → Stands x (placed n before) → Stands x (placed n xs) × (x.0 < p.0)
  before_stands x m = (into x (stands_left x (placed n before) (p ∷ placed (suc p.0) after) m), under_p x m)

  pub stands_before : (x : ℕ × X) → Stands x (placed n xs) → x.0 < p.0 → Stands x (placed n before)
  stands_before x m l =
      elim (part x m) [
        | inl i ↦ i
        | inr (inl e) ↦ absurd (omega (arith, ap (λ (v : ℕ × X). v.0) e))
        | inr (inr i) ↦ absurd (omega (arith, over_p x i))
      ]

  pub after_stands : (x : ℕ × X) → Stands x (placed (suc p.0) after) → Stands x (placed n xs) × (p.0 < x.0)
  after_stands x m = (into x (stands_right x (placed n before) (p ∷ placed (suc p.0) after) (inr m)), over_p x m)

  pub stands_after : (x : ℕ × X) → Stands x (placed n xs) → p.0 < x.0 → Stands x (placed (suc p.0) after)
  stands_after x m l =
      elim (part x m) [
        | inl i ↦ absurd (omega (arith, under_p x i))
        | inr (inl e) ↦ absurd (omega (arith, ap (λ (v : ℕ × X). v.0) e))
        | inr (inr i) ↦ i
      ]
