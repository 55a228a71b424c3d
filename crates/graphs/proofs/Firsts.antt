-- The first of the numbers from 1 to 64 that passes. Assumes nothing.
use Rattle.std.proofs.Common.{◌≡◌, ℕ, ◌<◌, ◌≤◌, Bool, true, false, List, Some, None, Option, arith, MatchOption}
use Rattle.std.specs.declared.ops.Range.{Range}
use Rattle.std.specs.Iterator.{YieldsThen}
use Rattle.std.specs.Fn.{CalledAt}
use Rattle.std.specs.List.{FoldsTo}
use Rattle.std.specs.Bool.{⊤}
use Rattle.std.proofs.iter.Yields.{nat_range_steps}
use Rattle.std.proofs.lemmas.Iterator.{first_from_Range}
use denote.Param.Members.{Mut}
use denote.Ref.{Bor}

by_cases : (r : Option ℕ) {P P' : Type 0} {Q Q' : ℕ → Type 0} → (P → P') → ((x : ℕ) → Q x → Q' x) → MatchOption r P Q → MatchOption r P' Q'
by_cases None none some h = none h
by_cases (Some x) none some h = some x h

-- what `find` answers, where Yes holds of each number that passes, and No of each other
pub first_number : {F : Type 0} {g : Mut F (Bor ℕ × Unit {0}) Bool} (u : Range ℕ) (f : F) (r : Option ℕ) (Yes No : ℕ → Type 0) {P : Type 0} {Q : ℕ → Type 0} → (xs : List ℕ) × (j : F) × YieldsThen nat_range_steps (record { start = 1; end = 65 }) xs r u × FoldsTo (λ p x q. CalledAt g p x false q) f xs j × MatchOption r ⊤ (λ x. (h : F) × CalledAt g j x true h)
    → ((x : ℕ) (q : F) → CalledAt g f x true q → Yes x) → ((x : ℕ) (q : F) → CalledAt g f x false q → (q ≡ f) × No x)
    → (((m : ℕ) → 1 ≤ m → m ≤ 64 → No m) → P) → ((x : ℕ) → 1 ≤ x → x ≤ 64 → Yes x → ((m : ℕ) → 1 ≤ m → m < x → No m) → Q x) → MatchOption r P Q
first_number u f r Yes No ran passes fails none some =
    by_cases r (λ h. none (λ m l k. h m l (omega arith))) (λ x h. some x h.0 (omega (arith, h.1)) h.2 h.3) (first_from_Range (record { start = 1; end = 65 }) u f r Yes No ran passes fails)
