use Rattle.history.proofs.Cues.{cue_is_told, ending_is_told}
use Rattle.history.proofs.cue_is_told.Goals as goal

pub returns : goal.returns
returns g c = record { cue = cue_is_told _; ending = ending_is_told _ }
