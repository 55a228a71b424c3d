use Rattle.history.specs.Marked.{marked}
use Rattle.views.proofs.Listing.{Listed, RankedBelow}
use Rattle.views.proofs.members.members_of.Given as goal

abbrev pub invariant-loop-n : goal.invariant-loop-n
invariant-loop-n g l = Listed (marked l.cues) l.n l.numbers l.count × RankedBelow (marked l.cues) l.n l.ranks
