use Rattle.std.proofs.Common.{ℕ, ◌<◌, List, length, sym, subst, arith}
use Rattle.orders.specs.Orders.{among}
use Rattle.history.specs.Marked.{marked}
use Rattle.views.proofs.Listing.{listed_no, listed_yes, listed_past, listed_all, ranked_no, ranked_yes, ranked_all}
use Rattle.views.proofs.members.members_of.Goals as goal
use Rattle.views.proofs.members.members_of.Goals.{then-is_marked+else-count-eq-MOST, else-is_marked}

pub returns-then-count-eq-MOST-clause-none : goal.returns-then-count-eq-MOST-clause-none
returns-then-count-eq-MOST-clause-none g c =
    subst (λ (us : List ℕ). 8 < length us) (λ i. among (λ n. c.committed_cues-cues.ensures n i))
    (listed_past (marked c.committed_cues-cues.result) c.loop-n.n c.loop-n.numbers c.loop-n.count c.loop-n.auto.n c.loop-n.invariant.0 (sym c.if-is_marked.ensures) (omega arith) c.if-count-eq-MOST.true)

pub loop-n-preserved : goal.loop-n-preserved
loop-n-preserved g c =
    let n = c.loop-n.n in
    elim c.if-is_marked.branch [
      | then-is_marked+else-count-eq-MOST w ↦
          rw (w.numbers-is, w.count-is, w.ranks-is) (listed_yes (marked c.committed_cues-cues.result) n c.loop-n.numbers c.loop-n.count c.loop-n.auto.n c.loop-n.invariant.0 (sym w.if-is_marked.ensures) w.if-count-eq-MOST.false, ranked_yes (marked c.committed_cues-cues.result) n c.loop-n.ranks c.loop-n.auto.n c.loop-n.invariant.1 c.loop-n.count (omega arith) c.loop-n.invariant.0.many)
      | else-is_marked w ↦ rw (w.numbers-is, w.count-is, w.ranks-is) (listed_no (marked c.committed_cues-cues.result) n c.loop-n.numbers c.loop-n.count c.loop-n.auto.n c.loop-n.invariant.0 (sym w.if-is_marked.ensures), ranked_no (marked c.committed_cues-cues.result) n c.loop-n.ranks c.loop-n.auto.n c.loop-n.invariant.1 (sym w.if-is_marked.ensures))
    ]

pub invariant_of-result : goal.invariant_of-result
invariant_of-result g c = record { few = c.loop-n.invariant.0.few; rising = listed_all (marked c.committed_cues-cues.result) c.loop-n.n c.loop-n.numbers c.loop-n.count (omega arith) c.loop-n.invariant.0; ranked = ranked_all c.committed_cues-cues.result c.loop-n.n c.loop-n.ranks (omega arith) c.loop-n.invariant.1 }
