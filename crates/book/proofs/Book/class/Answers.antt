use Rattle.std.proofs.Common.{subst}
use Rattle.recovery.specs.ReadsFrom.{IsClass}
use Rattle.book.proofs.Book.class.Goals as goal

pub returns-clause-breaks : goal.returns-clause-breaks
returns-clause-breaks g c = subst (λ es. IsClass g.K.Item.alike es c.class_of.result) c.entries.ensures c.class_of.ensures.breaks
