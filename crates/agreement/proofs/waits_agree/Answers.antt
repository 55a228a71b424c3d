use Rattle.agreement.proofs.WaitLists.{waits_agree_lem}
use Rattle.agreement.proofs.waits_agree.Goals as goal

pub returns : goal.returns
returns c = waits_agree_lem
