use Rattle.std.proofs.Common.{Bool, Ok, sym, ap, ◌∙◌}
use Rattle.lines.specs.Writing.{space_copied}
use Rattle.lines.proofs.RoundTrip.{rewritten_same}
use Rattle.lines.proofs.writes.copy_line.Goals as goal

pub returns-clause-space : goal.returns-clause-space
returns-clause-space g c =
    let text = g.K.Item.text in
    let parsed = g.K.Item.parsed in
    let sheet = c.args.sheet.now in
    let space = c.args.space.now in
    let found = c.in_ok-rewrite_line.field-0 in
    let was = c.in_ok-rewrite_line.ensures in
    was.space
    ∙ rewritten_same text parsed g.met.K.Exact.exact found sheet space _ was.answer
    ∙ ap (λ (b : Bool). space_copied (Ok b) sheet space) (sym c.is_some.ensures)
