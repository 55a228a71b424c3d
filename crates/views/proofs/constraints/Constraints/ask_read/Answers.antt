use Rattle.std.proofs.Common.{sym, ◌∙◌}
use Rattle.std.proofs.lemmas.Bool.{or_from}
use Rattle.history.specs.Marked.{marked}
use Rattle.views.proofs.Asking.{member, marks_within, read_first, read_other}
use Rattle.views.proofs.Putting.{same_member}
use Rattle.views.proofs.Writing.{last_in}
use Rattle.views.proofs.constraints.Constraints.ask_read.Goals as goal

pub put_first-requires : goal.put_first-requires
put_first-requires g c =
    (c.requires, marks_within g.K.Item.alike c.args.self.now c.args.item c.args.after.now c.writers_of-later.result.cues c.writers_of-later.ensures.marks)

pub put_ahead-requires : goal.put_ahead-requires
put_ahead-requires g c =
    (last_in g.K.Item.alike (member g.K.Item.alike c.args.self.now) c.args.item c.args.before.now c.in-Some.source (sym c.writers_of-earlier.ensures.last ∙ c.in-Some.is), c.requires)

pub put_between-requires : goal.put_between-requires
put_between-requires g c =
    let alike = g.K.Item.alike in
    let t = c.args.self.now in
    let source = last_in alike (member alike t) c.args.item c.args.before.now c.in-Some.source (sym c.writers_of-earlier.ensures.last ∙ c.in-Some.is) in
    let same = same_member t c.put_ahead.new.self (c.put_ahead.ensures source c.requires).members in (
      same c.in-Some.source source,
      same c.args.cue c.requires,
      (λ n m. same n (marks_within alike t c.args.item c.args.before.now c.writers_of-earlier.result.cues c.writers_of-earlier.ensures.marks n m)),
      (λ n m. same n (marks_within alike t c.args.item c.args.after.now c.writers_of-later.result.cues c.writers_of-later.ensures.marks n m)),
    )

pub returns-in-None : goal.returns-in-None
returns-in-None g c =
    read_first g.K.Item.alike c.args.self.now c.args.item c.args.cue c.requires c.args.before.now c.args.after.now c.writers_of-earlier.result.last c.writers_of-earlier.ensures.last
    c.writers_of-later.result.cues c.put_first.new.self c.writers_of-later.ensures.marks c.put_first.ensures c.in-None.is

pub returns-else-is_marked-2 : goal.returns-else-is_marked-2
returns-else-is_marked-2 g c =
    let earlier = c.writers_of-earlier.result.cues in
    let later = c.writers_of-later.result.cues in
    read_other g.K.Item.alike c.args.self.now c.args.item c.args.cue c.requires c.args.before.now c.args.after.now c.writers_of-earlier.result.last c.writers_of-earlier.ensures.last
    c.in-Some.source c.in-Some.is c.if-source-cue.true earlier later c.writers_of-earlier.ensures.marks c.writers_of-later.ensures.marks c.put_ahead.new.self c.put_between.new.self
    (or_from (marked earlier c.args.cue) (marked later c.in-Some.source) (sym c.if-is_marked.ensures) (sym c.if-is_marked-2.ensures))
    c.put_ahead.ensures c.put_between.ensures
