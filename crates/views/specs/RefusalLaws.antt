-- When views are refused.
--
--   IsViewsRefusal cues cells o   == o is the refusal that is right, or that none is, for so many
--                                    committed cues and a list of so many cells
--   ViewsRefusalIsTold K          == views answers this refusal, and no other
use Rattle.std.specs.Prelude.{◌≡◌, ℕ, ◌<◌, ◌≤◌, ◌⊎◌, List, length, Some, None, Option, ◌↔◌}
use Rattle.refusals.specs.declared.Refusal.{Refusal}
use Rattle.refusals.specs.declared.Refusal.TheVariants.{ManyCues, ListShort}
use Rattle.history.specs.declared.Entry.{Entry}
use Rattle.history.specs.Order.{committed_cues}
use Rattle.views.specs.Answer.{views_refusal}

-- 23 for more than 8 committed cues; else 21 for a list with fewer cells than these
abbrev pub IsViewsRefusal : (cues cells : ℕ) → Option Refusal → Type 0
IsViewsRefusal cues cells None = (cues ≤ 8) × (cues ≤ cells)
IsViewsRefusal cues cells (Some e) =
    ((e ≡ ManyCues) × (8 < cues)) ⊎ ((e ≡ ListShort) × (cues ≤ 8) × (cells < cues))

abbrev pub ViewsRefusalIsTold : Type 0 → Type 0
ViewsRefusalIsTold K =
    (es : List (Entry K)) (cells : ℕ) (o : Option Refusal) →
    (views_refusal es cells ≡ o) ↔ IsViewsRefusal (length (committed_cues es)) cells o
