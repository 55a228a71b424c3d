-- How a cue ends. Assumes nothing.
use Rattle.history.specs.declared.Act.{Act}
use Rattle.history.specs.declared.Act.TheVariants as act
use Rattle.history.specs.declared.Ending.{Ending}
use Rattle.history.specs.declared.Ending.TheVariants.{Commit, Abort}

-- the act that ends a cue so
abbrev pub act_of : {K : Type 0} → Ending → Act K
act_of Commit = act.Commit
act_of Abort = act.Abort
