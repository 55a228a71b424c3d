use Rattle.std.proofs.Common.{sym, ◌∙◌, arith}
use Rattle.views.proofs.Noting.{notes_ahead}
use Rattle.views.proofs.Ranking.{pair_some}
use Rattle.views.proofs.constraints.Constraints.put_ahead.Goals as goal

pub returns-in-Some : goal.returns-in-Some
returns-in-Some c ma mb = notes_ahead c.args.self.now c.in-Some.cell c.args.a c.args.b (sym c.pair.ensures.is ∙ c.in-Some.is) (omega (arith, c.in-Some.ensures.small))

pub returns-in_default : goal.returns-in_default
returns-in_default c ma mb = absurd (pair_some c.args.self.now.members.cues c.args.a c.args.b ma mb (sym c.pair.ensures.is ∙ c.in_default.is))
