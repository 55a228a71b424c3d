use Rattle.serial.proofs.FirstPair.{why_is_told_lem}
use Rattle.serial.proofs.why_is_told.Goals as goal

pub returns : goal.returns
returns g c = why_is_told_lem _
