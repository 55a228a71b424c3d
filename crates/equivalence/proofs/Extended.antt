-- The first order that fits, found by trying each number in front. Assumes nothing.
use Rattle.std.proofs.Common.{◌≡◌, ℕ, suc, Bool, true, false, cond, not, ◌&&◌, ◌≢◌, List, [], ◌∷◌, map, length, None, Option, refl, ap, ◌∙◌}
use Rattle.std.specs.Option.{option_map}
use Rattle.std.specs.List.{flat_map, AllByRecursion as All}
use Rattle.std.proofs.ByRecursion.{All-weaker}
use Rattle.lists.specs.Lists.{some, or_else}
use Rattle.orders.specs.Orders.{without, first_where, orders_of, orders}
use Rattle.orders.specs.Least.{Stands, Rearranges, Distinct}
use Rattle.orders.proofs.First.{all_mem}
use Rattle.orders.proofs.Extending.{first_same, first_append, first_map, some_rearranged, distinct_without, orders_some, orders_without, all_rearranged}
use Rattle.equivalence.specs.Extending.{may_come, fits_after}

pub none_first : {X : Type 0} (os : List X) → first_where (λ o. false) os ≡ None
none_first [] = refl
none_first (o ∷ os) = none_first os

-- a test that no order changes is asked once
first_guard : {X Y : Type 0} (f : X → Y) (b : Bool) (p : X → Bool) (os : List X) → option_map f (first_where (λ o. b && p o) os) ≡ cond b (option_map f (first_where p os)) None
first_guard f true p os = refl
first_guard f false p os = ap (option_map f) (none_first os)

module _ (ahead : ℕ → ℕ → Bool) (apart : ℕ → ℕ → ℕ → Bool) where
  -- whether x may come does not depend on the order of what follows it
  pub may_come_rearranged : (seen : List ℕ) (x : ℕ) (us o : List ℕ) → Rearranges us o → may_come ahead apart seen x o ≡ may_come ahead apart seen x us
  may_come_rearranged seen x us o h k =
      not (some_rearranged (λ i. ahead i x) us o h k) && not (some (λ j. some_rearranged (λ i. apart j i x) us o h k) seen)

  -- the first that fits of the orders of us that begin with x
  abbrev pub try_one : List ℕ → List ℕ → ℕ → Option (List ℕ)
  try_one seen us x = cond (may_come ahead apart seen x (without x us)) (option_map (λ o. x ∷ o) (first_where (fits_after ahead apart (x ∷ seen)) (orders (without x us)))) None

  -- the same of those that begin with one of xs
  abbrev pub try_all : List ℕ → List ℕ → List ℕ → Option (List ℕ)
  try_all seen us [] = None
  try_all seen us (x ∷ xs) = or_else (try_one seen us x) (try_all seen us xs)

  pub branch_first : (n : ℕ) (seen us : List ℕ) → Distinct us → length us ≡ suc n → (x : ℕ) → Stands x us → first_where (fits_after ahead apart seen) (map (λ o. x ∷ o) (orders_of n (without x us))) ≡ try_one seen us x
  branch_first n seen us d l x s =
      let rest : List ℕ = without x us in
      ap (λ (os : List (List ℕ)). first_where (fits_after ahead apart seen) (map (λ o. x ∷ o) os)) (orders_without n x us d s l)
      ∙ first_map (fits_after ahead apart seen) x (orders rest)
      ∙ ap (option_map (λ o. x ∷ o))
      (first_same (λ o. may_come ahead apart seen x o && fits_after ahead apart (x ∷ seen) o) (λ o. may_come ahead apart seen x rest && fits_after ahead apart (x ∷ seen) o) (orders rest)
      (All-weaker (Rearranges rest) (λ o. (may_come ahead apart seen x o && fits_after ahead apart (x ∷ seen) o) ≡ (may_come ahead apart seen x rest && fits_after ahead apart (x ∷ seen) o))
      (λ o h. ap (λ (b : Bool). b && fits_after ahead apart (x ∷ seen) o) (may_come_rearranged seen x rest o h))
      (orders rest) (all_rearranged rest (distinct_without x us d))))
      ∙ first_guard (λ o. x ∷ o) (may_come ahead apart seen x rest) (fits_after ahead apart (x ∷ seen)) (orders rest)

  branches : (n : ℕ) (seen us : List ℕ) → Distinct us → length us ≡ suc n → (xs : List ℕ) → All (λ x. Stands x us) xs → first_where (fits_after ahead apart seen) (flat_map (λ x. map (λ o. x ∷ o) (orders_of n (without x us))) xs) ≡ try_all seen us xs
  branches n seen us d l [] h = refl
  branches n seen us d l (x ∷ xs) h =
      first_append (fits_after ahead apart seen) (map (λ o. x ∷ o) (orders_of n (without x us))) (flat_map (λ x. map (λ o. x ∷ o) (orders_of n (without x us))) xs)
      ∙ (λ k. or_else (branch_first n seen us d l x h.0 k) (branches n seen us d l xs h.1 k))

  pub first_by_branches : (seen us : List ℕ) → Distinct us → us ≢ [] → first_where (fits_after ahead apart seen) (orders us) ≡ try_all seen us us
  first_by_branches seen [] d some = absurd (some refl)
  first_by_branches seen (u ∷ us) d some =
      ap (first_where (fits_after ahead apart seen)) (orders_some (length us) (u ∷ us) refl)
      ∙ branches (length us) seen (u ∷ us) d refl (u ∷ us) (all_mem (u ∷ us))
