use Rattle.agreement.proofs.Samples.{samples_agree_lem}
use Rattle.agreement.proofs.samples_agree.Goals as goal

pub returns : goal.returns
returns c = samples_agree_lem
