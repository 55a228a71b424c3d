use Rattle.std.proofs.Common.{◌≡◌, ◌≤◌}
use Rattle.items.specs.Kinds.{words}
use Rattle.items.specs.WordsLemmas.{same_word}
use Rattle.items.proofs.MarkItem.same.Given as goal

abbrev pub invariant-loop-mine : goal.invariant-loop-mine
invariant-loop-mine l = (same_word l.mine l.theirs ≡ same_word l.initial.mine l.initial.theirs) × (l.mine ≤ words) × (l.theirs ≤ words)

abbrev pub decreases-loop-mine : goal.decreases-loop-mine
decreases-loop-mine l = l.mine
