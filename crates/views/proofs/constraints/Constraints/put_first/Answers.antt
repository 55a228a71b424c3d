use Rattle.std.proofs.Common.{◌+◌, sym, subst}
use Rattle.views.specs.declared.constraints.Constraints.{Constraints}
use Rattle.views.specs.Noted.{PutsAhead}
use Rattle.views.proofs.Putting.{same_member, other_in, FirstUpto, first_more, first_past}
use Rattle.views.proofs.constraints.Constraints.put_first.Goals as goal
use Rattle.views.proofs.constraints.Constraints.put_first.Goals.{then-is_other, else-is_other}

pub put_ahead-requires : goal.put_ahead-requires
put_ahead-requires c =
    let t = c.args.self.now in
    let n = c.loop-n.n in
    let same = same_member t c.loop-n.self (c.loop-n.invariant c.requires.0 c.requires.1).members in
    (same c.args.reader c.requires.0, same n (other_in c.args.reader c.args.writers.now n t c.requires.1 (sym c.if-is_other.ensures)))

pub loop-n-preserved : goal.loop-n-preserved
loop-n-preserved c =
    let t = c.args.self.now in
    let reader = c.args.reader in
    let writers = c.args.writers.now in
    let n = c.loop-n.n in
    let t' = c.loop-n.self in
    elim c.if-is_other.branch [
      | then-is_other w ↦
          first_more t reader writers n t' c.loop-n.invariant c.if-is_other.self (sym w.if-is_other.ensures) (subst (λ (u : Constraints). PutsAhead t' u reader n) (sym w.self-is) w.put_ahead.ensures)
      | else-is_other w ↦
          subst (FirstUpto t reader writers (n + 1)) (sym w.self-is) (first_past t reader writers n t' c.loop-n.invariant (sym w.if-is_other.ensures))
    ]
