-- When a search is refused, by the lengths of what is lent.
--
--   IsSearchRefusal numbers cells bytes o   == o is the refusal that is right, or that none is, for
--                                              a graph of so many numbers, a list of so many cells
--                                              and a strip of so many bytes
--   SearchRefusalIsTold                     == the search answers this refusal, and no other
use Rattle.std.specs.Prelude.{◌≡◌, ℕ, ◌<◌, ◌≤◌, Bool, ◌⊎◌, length, Some, None, Option, ◌↔◌}
use Rattle.refusals.specs.declared.Refusal.{Refusal}
use Rattle.refusals.specs.declared.Refusal.TheVariants.{ListShort, StripShort}
use Rattle.orders.specs.Orders.{among}
use Rattle.graphs.specs.Answer.{search_refusal}

-- 22 for a strip of fewer than 64 bytes; else 21 for a list with fewer cells than there are numbers
abbrev pub IsSearchRefusal : (numbers cells bytes : ℕ) → Option Refusal → Type 0
IsSearchRefusal numbers cells bytes None = (64 ≤ bytes) × (numbers ≤ cells)
IsSearchRefusal numbers cells bytes (Some e) =
    ((e ≡ StripShort) × (bytes < 64)) ⊎ ((e ≡ ListShort) × (64 ≤ bytes) × (cells < numbers))

abbrev pub SearchRefusalIsTold : Type 0
SearchRefusalIsTold =
    (has : ℕ → Bool) (cells bytes : ℕ) (o : Option Refusal) →
    (search_refusal has cells bytes ≡ o) ↔ IsSearchRefusal (length (among has)) cells bytes o
