use Rattle.agreement.proofs.Histories.{histories_agree_lem}
use Rattle.agreement.proofs.histories_agree.Goals as goal

pub returns : goal.returns
returns c = histories_agree_lem
