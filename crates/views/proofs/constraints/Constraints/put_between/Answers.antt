use Rattle.std.proofs.Common.{◌+◌, sym, subst, arith}
use Rattle.views.specs.declared.constraints.Constraints.{Constraints}
use Rattle.views.specs.Noted.{PutsApart}
use Rattle.views.proofs.Putting.{same_member, third_in, BetweenUpto, between_none, between_more, between_past, between_all}
use Rattle.views.proofs.constraints.Constraints.put_between.Goals as goal
use Rattle.views.proofs.constraints.Constraints.put_between.Goals.{then-is_third, else-is_third}

pub put_apart-requires : goal.put_apart-requires
put_apart-requires c =
    let t = c.args.self.now in
    let n = c.loop-n.n in
    let same = same_member t c.loop-n.self (c.loop-n.invariant c.requires.0 c.requires.1 c.requires.2 c.requires.3).members in (
      same c.args.source c.requires.0,
      same c.args.reader c.requires.1,
      same n (third_in c.args.source c.args.reader c.args.earlier.now c.args.later.now n t c.requires.2 c.requires.3 (sym c.if-is_third.ensures)),
    )

pub loop-n-preserved : goal.loop-n-preserved
loop-n-preserved c =
    let t = c.args.self.now in
    let source = c.args.source in
    let reader = c.args.reader in
    let earlier = c.args.earlier.now in
    let later = c.args.later.now in
    let n = c.loop-n.n in
    let t' = c.loop-n.self in
    elim c.if-is_third.branch [
      | then-is_third w ↦
          between_more t source reader earlier later n t' c.loop-n.invariant c.if-is_third.self (sym w.if-is_third.ensures) (subst (λ (u : Constraints). PutsApart t' u source reader n) (sym w.self-is) w.put_apart.ensures)
      | else-is_third w ↦
          subst (BetweenUpto t source reader earlier later (n + 1)) (sym w.self-is) (between_past t source reader earlier later n t' c.loop-n.invariant (sym w.if-is_third.ensures))
    ]

pub loop-n-init : goal.loop-n-init
loop-n-init c = between_none c.args.self.now c.args.source c.args.reader c.args.earlier.now c.args.later.now

pub returns : goal.returns
returns c = between_all c.args.self.now c.args.source c.args.reader c.args.earlier.now c.args.later.now c.loop-n.n c.loop-n.self c.loop-n.invariant (omega arith)
