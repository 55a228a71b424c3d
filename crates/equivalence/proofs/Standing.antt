-- What stands in a list. Assumes nothing.
use Rattle.std.proofs.Common.{◌⊎◌, List, [], ◌∷◌, ◌++◌, sym, refl, subst, inl, inr, ⊎_elim}
use Rattle.std.specs.List.{flat_map}
use Rattle.orders.specs.Least.{Stands}

pub stands_left : {X : Type 0} (x : X) (xs ys : List X) → Stands x xs → Stands x (xs ++ ys)
stands_left x [] ys h = absurd h
stands_left x (z ∷ xs) ys (inl e) = inl e
stands_left x (z ∷ xs) ys (inr h) = inr (stands_left x xs ys h)

pub stands_right : {X : Type 0} (x : X) (xs ys : List X) → Stands x ys → Stands x (xs ++ ys)
stands_right x [] ys h = h
stands_right x (z ∷ xs) ys h = inr (stands_right x xs ys h)

pub stands_either : {X : Type 0} (x : X) (xs ys : List X) → Stands x (xs ++ ys) → Stands x xs ⊎ Stands x ys
stands_either x [] ys h = inr h
stands_either x (z ∷ xs) ys (inl e) = inl (inl e)
stands_either x (z ∷ xs) ys (inr h) = ⊎_elim (λ m. inl (inr m)) (λ m. inr m) (stands_either x xs ys h)

module _ {X Y : Type 0} where
  pub stands_joined : (f : X → List Y) (y : Y) (x : X) (xs : List X) → Stands x xs → Stands y (f x) → Stands y (flat_map f xs)
  stands_joined f y x [] h m = absurd h
  stands_joined f y x (z ∷ xs) (inl e) m = stands_left y (f z) (flat_map f xs) (subst (λ (u : X). Stands y (f u)) (sym e) m)
  stands_joined f y x (z ∷ xs) (inr h) m = stands_right y (f z) (flat_map f xs) (stands_joined f y x xs h m)

  pub joined_stands : (f : X → List Y) (y : Y) (xs : List X) → Stands y (flat_map f xs) → (x : X) × Stands x xs × Stands y (f x)
  joined_stands f y [] h = absurd h
  joined_stands f y (z ∷ xs) h = ⊎_elim (λ m. (z, inl refl, m)) (λ m. let r = joined_stands f y xs m in (r.0, inr r.1, r.2)) (stands_either y (f z) (flat_map f xs) h)
