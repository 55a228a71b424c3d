-- When an order is refused.
--
--   OrderRefusalIsTold K   == the refusal is that of a search of as many numbers as cues committed
use Rattle.std.specs.Prelude.{◌≡◌, ℕ, List, length, Option, ◌↔◌}
use Rattle.refusals.specs.declared.Refusal.{Refusal}
use Rattle.graphs.specs.RefusalLaws.{IsSearchRefusal}
use Rattle.history.specs.declared.Entry.{Entry}
use Rattle.history.specs.Order.{committed_cues}
use Rattle.serial.specs.OrderAnswer.{order_refusal}

abbrev pub OrderRefusalIsTold : Type 0 → Type 0
OrderRefusalIsTold K =
    (es : List (Entry K)) (cells bytes : ℕ) (o : Option Refusal) →
    (order_refusal es cells bytes ≡ o) ↔ IsSearchRefusal (length (committed_cues es)) cells bytes o
