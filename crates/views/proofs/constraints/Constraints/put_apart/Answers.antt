use Rattle.std.proofs.Common.{sym, ◌∙◌, arith}
use Rattle.views.proofs.Noting.{notes_apart}
use Rattle.views.proofs.Ranking.{triple_some}
use Rattle.views.proofs.constraints.Constraints.put_apart.Goals as goal

pub returns-in-Some : goal.returns-in-Some
returns-in-Some c ms mr mw = notes_apart c.args.self.now c.in-Some.cell c.args.source c.args.reader c.args.writer (sym c.triple.ensures.is ∙ c.in-Some.is) (omega (arith, c.in-Some.ensures.small))

pub returns-in_default : goal.returns-in_default
returns-in_default c ms mr mw = absurd (triple_some c.args.self.now.members.cues c.args.source c.args.reader c.args.writer ms mr mw (sym c.triple.ensures.is ∙ c.in_default.is))
