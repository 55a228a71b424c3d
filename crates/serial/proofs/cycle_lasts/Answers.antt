use Rattle.serial.proofs.Lasting.{cycle_lasts_lem}
use Rattle.serial.proofs.cycle_lasts.Goals as goal

pub returns : goal.returns
returns g c = cycle_lasts_lem _
