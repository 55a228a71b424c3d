use Rattle.std.proofs.Common.{sym, refl, ◌∙◌}
use Rattle.book.proofs.Entering.{lays_one}
use Rattle.book.proofs.Book.enter.Goals as goal

pub returns-clause-lays : goal.returns-clause-lays
returns-clause-lays g c = lays_one c.args.self.now _ _ c.args.entry (sym c.place_for.ensures ∙ c.in_ok-place.was) refl refl refl
