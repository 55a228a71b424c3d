use Rattle.std.proofs.Common.{◌+◌, List, None, take, sym, subst}
use Rattle.std.proofs.lemmas.List.{drop_all, take_rest}
use Rattle.history.specs.declared.Entry.{Entry}
use Rattle.views.specs.Tables.{Asks, Asked, Derived}
use Rattle.views.proofs.Gathering.{gathered_none, gathered_more, gathered_hidden, gathered_all}
use Rattle.views.proofs.constraints.constraints_of.Goals as goal

pub loop-p-init : goal.loop-p-init
loop-p-init g c = gathered_none g.K.Item.alike c.args.entries.now c.args.members

pub returns-in_err-ask : goal.returns-in_err-ask
returns-in_err-ask g c =
    subst (Derived g.K.Item.alike c.args.entries.now) (sym c.from_residual.ensures)
    (gathered_hidden g.K.Item.alike c.args.entries.now c.args.members c.loop-p.p c.index-entries-p.result c.loop-p.t c.ask.new.self c.loop-p-test.true c.index-entries-p.is c.loop-p.invariant c.requires
    (subst (λ (after : List (Entry g.row.K.Denot)). Asked g.K.Item.alike c.loop-p.t c.ask.new.self (take c.loop-p.p c.args.entries.now) c.index-entries-p.result after None) (take_rest c.args.entries.now (c.loop-p.p + 1)) c.in_err-ask.ensures))

pub loop-p-preserved : goal.loop-p-preserved
loop-p-preserved g c =
    gathered_more g.K.Item.alike c.args.entries.now c.args.members c.loop-p.p c.index-entries-p.result c.loop-p.t c.ask.new.self c.loop-p-test.true c.index-entries-p.is c.loop-p.invariant
    (subst (Asks g.K.Item.alike c.loop-p.t c.ask.new.self (take c.loop-p.p c.args.entries.now) c.index-entries-p.result) (take_rest c.args.entries.now (c.loop-p.p + 1)) c.in_ok-ask.ensures)

pub returns : goal.returns
returns g c =
    gathered_all g.K.Item.alike c.args.entries.now c.args.members c.loop-p.p c.loop-p.t (drop_all c.loop-p.p c.args.entries.now c.loop-p-test.false) c.requires c.loop-p.invariant
