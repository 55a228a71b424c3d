use Rattle.std.proofs.Common.{sym, ◌∙◌}
use Rattle.views.proofs.Asking.{member, write_other}
use Rattle.views.proofs.Writing.{last_in}
use Rattle.views.proofs.constraints.Constraints.ask_write.Goals as goal

pub put_ahead-requires : goal.put_ahead-requires
put_ahead-requires g c =
    (c.requires, last_in g.K.Item.alike (member g.K.Item.alike c.args.self.now) c.args.item c.args.after.now c.in-Some.last (sym c.writers_of.ensures.last ∙ c.in-Some.is))

pub returns-then-last-cue : goal.returns-then-last-cue
returns-then-last-cue g c =
    write_other g.K.Item.alike c.args.self.now c.args.item c.args.cue c.requires c.args.after.now c.writers_of.result.last c.writers_of.ensures.last
    c.in-Some.last c.in-Some.is c.if-last-cue.true c.put_ahead.new.self c.put_ahead.ensures
