-- The list of the numbers that pass has them all, and rises.
use Rattle.std.proofs.Common.{◌≡◌, ℕ, zero, suc, ◌<◌, ◌≤◌, true, List, [], ◌∷◌, Some, inl, inr, subst, arith}
use Rattle.std.specs.List.{slice_get, AllByRecursion as All}
use Rattle.orders.specs.Orders.{among}
use Rattle.orders.specs.Least.{Stands, AmongIs}
use Rattle.orders.proofs.Among.{among_all, mem_among}
use Rattle.orders.proofs.Leasts.{Rising, rising_among}

module _ (P : ℕ → Type 0) where
  all_stands : (us : List ℕ) (m : ℕ) → All P us → Stands m us → P m
  all_stands [] m h s = absurd s
  all_stands (u ∷ us) m h (inl e) = subst P e h.0
  all_stands (u ∷ us) m h (inr s) = all_stands us m h.1 s

  all_at : (us : List ℕ) (i m : ℕ) → All P us → slice_get us i ≡ Some m → P m
  all_at [] i m h g = cc
  all_at (u ∷ us) zero m h g = let e : u ≡ m = cc in subst P e h.0
  all_at (u ∷ us) (suc i) m h g = all_at us i m h.1 g

rising_at : (us : List ℕ) (i j a b : ℕ) → Rising us → i < j → slice_get us i ≡ Some a → slice_get us j ≡ Some b → a < b
rising_at [] i j a b r l gi gj = cc
rising_at (u ∷ us) i zero a b r l gi gj = absurd (omega arith)
rising_at (u ∷ us) zero (suc j) a b r l gi gj =
    let e : u ≡ a = cc in
    let above = all_at (λ y. u < y) us j b r.0 gj in
    omega arith
rising_at (u ∷ us) (suc i) (suc j) a b r l gi gj = rising_at us i j a b r.1 (omega arith) gi gj

pub among_is : AmongIs
among_is =
    record {
      members = λ has n. (
        all_stands (λ m. (1 ≤ m) × (m ≤ 64) × (has m ≡ true)) (among has) n (among_all has),
        λ h. mem_among has n h.0 h.1 h.2,
      );
      rises = λ has i j a b. rising_at (among has) i j a b (rising_among has);
    }
