-- Orders that are extended number by number under two rules: who comes before whom, and who stands between no two. Assumes nothing.
use Rattle.std.specs.Prelude.{◌≡◌, ℕ, Bool, true, cond, not, ◌&&◌, List, [], ◌∷◌, None}
use Rattle.lists.specs.Lists.{some}
use Rattle.orders.specs.Orders.{first_where, orders}
use Rattle.history.specs.declared.Entry.{Entry}
use Rattle.history.specs.Order.{committed_cues}
use Rattle.history.specs.Views.{view_order}
use Rattle.equivalence.specs.Laws.{Sameness}
use Rattle.equivalence.specs.Constraints.{is_hidden, is_ahead, is_apart}

module _ (ahead : ℕ → ℕ → Bool) (apart : ℕ → ℕ → ℕ → Bool) where
  -- x may come after seen and before rest
  abbrev pub may_come : List ℕ → ℕ → List ℕ → Bool
  may_come seen x rest = not (some (λ i. ahead i x) rest) && not (some (λ j. some (λ i. apart j i x) rest) seen)

  -- each of the order may come where it stands, after seen
  abbrev pub fits_after : List ℕ → List ℕ → Bool
  fits_after seen [] = true
  fits_after seen (x ∷ rest) = may_come seen x rest && fits_after (x ∷ seen) rest

  abbrev pub fits : List ℕ → Bool
  fits o = fits_after [] o

-- the first view-equivalent order is the first that fits the constraints, and there is none where a read's source is hidden
abbrev pub ViewsByConstraints : Type 0 → Type 0
ViewsByConstraints K = (alike : K → K → Bool) → Sameness alike → (es : List (Entry K)) → view_order alike es ≡ cond (is_hidden alike es) None (first_where (fits (is_ahead alike es) (is_apart alike es)) (orders (committed_cues es)))
