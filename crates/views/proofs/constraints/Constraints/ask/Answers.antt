use Rattle.views.proofs.Asking.{asks_none}
use Rattle.views.proofs.constraints.Constraints.ask.Goals as goal

pub returns-in_default : goal.returns-in_default
returns-in_default g c = asks_none g.K.Item.alike c.args.self.now c.args.before.now c.args.e.now c.args.after.now c.in_default.not-Read c.in_default.not-Write
