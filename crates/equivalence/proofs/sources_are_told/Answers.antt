use Rattle.equivalence.proofs.Sources.{sources_are_told_lem, view_is_told}
use Rattle.equivalence.proofs.sources_are_told.Goals as goal

pub returns : goal.returns
returns g c = record { sources = sources_are_told_lem _; view = view_is_told _ }
