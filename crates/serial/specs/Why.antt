-- Which two entries put one cue before another. Places count from 1.
--
--   why_answer es i j     == the answer about the cues i and j
--   AreTwoCues i j        == i and j are the numbers of two cues
--   Tells es i j r        == it is right to answer r
--   WhyIsTold             == exactly the answer is
use Rattle.std.specs.Prelude.{◌≡◌, ℕ, ◌+◌, ◌<◌, ◌≤◌, Bool, cond, not, ◌&&◌, ◌⊎◌, List, [], ◌∷◌}
use Rattle.std.specs.Prelude.{Some, None, Ok, Err, Option, Result, ◌==◌, ◌≢◌, ◌↔◌}
use Rattle.lists.specs.Lists.{or_else}
use Rattle.refusals.specs.declared.Refusal.{Refusal}
use Rattle.refusals.specs.declared.Refusal.TheVariants.{CuePair}
use Rattle.history.specs.declared.Entry.{Entry}
use Rattle.history.specs.Conflicts.{conflict}
use Rattle.history.specs.Entries.{is_cue}
use Rattle.history.specs.Order.{PutsBefore}
use Rattle.history.specs.Places.{IsCue}
use Rattle.serial.specs.declared.Pair.{Pair}

abbrev pub two_cues : ℕ → ℕ → Bool
two_cues i j = is_cue i && is_cue j && not (i == j)

module _ {K : Type 0} (alike : K → K → Bool) where
  -- y is of cue j and conflicts with x
  abbrev pub answers : ℕ → Entry K → Entry K → Bool
  answers j x y = y.cue == j && conflict alike x y

  -- the entry x at place p, with the first of these, from place q on, that answers it
  abbrev pub pair_with : ℕ → Entry K → ℕ → ℕ → List (Entry K) → Option Pair
  pair_with j x p q [] = None
  pair_with j x p q (y ∷ ys) = cond (answers j x y) (Some (record { first = p; second = q })) (pair_with j x p (q + 1) ys)

  -- the same for each of these entries in turn, from place p on, that is of cue i
  abbrev pub pair_from : ℕ → ℕ → ℕ → List (Entry K) → Option Pair
  pair_from i j p [] = None
  pair_from i j p (x ∷ xs) = or_else (cond (x.cue == i) (pair_with j x p (p + 1) xs) None) (pair_from i j (p + 1) xs)

  abbrev pub why_of : List (Entry K) → ℕ → ℕ → Option Pair
  why_of es i j = pair_from i j 1 es

  abbrev pub why_answer : List (Entry K) → ℕ → ℕ → Result (Option Pair) Refusal
  why_answer es i j = cond (two_cues i j) (Ok (why_of es i j)) (Err CuePair)

pub record AreTwoCues (i j : ℕ) : Type 0 where
  pub one : IsCue i
  pub other : IsCue j
  pub differ : i ≢ j

module _ {K : Type 0} (alike : K → K → Bool) where
  -- places that are answered put cue i before cue j, and all others that do come later; where none
  -- are answered there are none; what is refused, always by CuePair, is what is not two cues
  pub record Tells (es : List (Entry K)) (i j : ℕ) (r : Result (Option Pair) Refusal) : Type 0 where
    pub found : (w : Pair) → r ≡ Ok (Some w) → PutsBefore alike es i j w.first w.second
    pub least :
        (w : Pair) → r ≡ Ok (Some w) → (p q : ℕ) → PutsBefore alike es i j p q →
        (w.first < p) ⊎ ((w.first ≡ p) × (w.second ≤ q))
    pub none : r ≡ Ok None → (p q : ℕ) → PutsBefore alike es i j p q → ⊥
    pub refused : (r ≡ Err CuePair) ↔ (AreTwoCues i j → ⊥)
    pub only : (f : Refusal) → r ≡ Err f → f ≡ CuePair

-- one answer is right, the one that is computed
abbrev pub WhyIsTold : Type 0 → Type 0
WhyIsTold K =
    (alike : K → K → Bool) (es : List (Entry K)) (i j : ℕ)
    (r : Result (Option Pair) Refusal) →
    Tells alike es i j r ↔ (r ≡ why_answer alike es i j)
