use Rattle.std.proofs.Common.{Ok, rules}
use Rattle.serial.proofs.FirstPair.{tells}
use Rattle.serial.proofs.why.Goals as goal

pub returns-clause-tells : goal.returns-clause-tells
returns-clause-tells g c = tells g.K.Item.alike c.args.i c.args.j c.args.entries.now (Ok c.first_pair.result) (search rules)
