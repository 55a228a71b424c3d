-- The committed list, and an order of the committed cues. Assumes nothing.
use Rattle.std.proofs.Common.{◌≡◌, ℕ, ◌<◌, true, List, ◌∙◌}
use Rattle.std.proofs.lemmas.Bool.{and_parts}
use Rattle.lists.specs.Lists.{placed}
use Rattle.orders.specs.Least.{Stands, Rearranges, Distinct}
use Rattle.orders.proofs.Precedence.{rearranged_has, rearranged_distinct}
use Rattle.history.specs.declared.Entry.{Entry}
use Rattle.history.specs.Conflicts.{touches}
use Rattle.history.specs.Entries.{committed}
use Rattle.history.specs.Order.{committed_cues}
use Rattle.history.specs.Views.{counts, committed_list}
use Rattle.history.proofs.Committed.{has_committed}
use Rattle.equivalence.proofs.Ordered.{kept_of, Ordered, ordered_kept, placed_from, placed_rise}
use Rattle.equivalence.proofs.Serial.{has_stands, Under}

module _ {K : Type 0} (es : List (Entry K)) where
  pub committed_rise : Ordered Under (committed_list es)
  committed_rise = ordered_kept Under (λ p. counts es p.1) (placed 1 es) (placed_rise 1 es)

  -- what an entry of the committed list is
  pub committed_of : (x : ℕ × Entry K) → Stands x (committed_list es) → Stands x (placed 1 es) × (0 < x.0) × Stands x.1 es × (committed es x.1.cue ≡ true)
  committed_of x i =
      let k = kept_of (λ p. counts es p.1) (placed 1 es) x i in
      let p = placed_from 1 es x k.0 in
      (k.0, p.0, p.1, (and_parts (committed es x.1.cue) (touches (λ k. true) x.1.act) k.1).0)

  module _ (o : List ℕ) (h : Rearranges (committed_cues es) o) where
    pub committed_once : Distinct o
    committed_once = rearranged_distinct (committed_cues es) o h

    pub committed_cover : (x : ℕ × Entry K) → Stands x (committed_list es) → Stands x.1.cue o
    committed_cover x i =
        has_stands x.1.cue o (rearranged_has (committed_cues es) o h x.1.cue ∙ has_committed es x.1.cue ∙ (committed_of x i).3)
