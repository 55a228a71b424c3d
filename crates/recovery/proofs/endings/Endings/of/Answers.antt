use Rattle.std.proofs.Common.{◌+◌, ◌-◌, length, take, set, sym, ap, refl, subst, ◌∙◌}
use Rattle.std.proofs.lemmas.List.{length-set, take_all}
use Rattle.recovery.proofs.Tables.{Firsts, none_yet, firsts_skip, firsts_note, table_notes}
use Rattle.recovery.proofs.endings.Endings.of.Goals as goal
use Rattle.recovery.proofs.endings.Endings.of.Goals.{then-is_cue, else-is_cue}

pub loop-i-init : goal.loop-i-init
loop-i-init g c = (refl, none_yet g.row.K.Denot)

pub loop-i-preserved : goal.loop-i-preserved
loop-i-preserved g c =
    let es = c.args.entries.now in
    let i = c.loop-i.i in
    let e = c.index-entries-i.result in
    let was = c.loop-i.invariant in
    elim c.if-is_cue.branch [
      | then-is_cue w ↦
          let cues = set c.loop-i.cues (e.cue - 1) w.note.new.self in
          let right = firsts_note es i c.loop-i.cues was.1 e c.loop-i-test.true c.index-entries-i.is w.note.new.self was.0 (sym w.if-is_cue.ensures) w.note.ensures in
          (ap length w.cues-is ∙ length-set c.loop-i.cues (e.cue - 1) w.note.new.self ∙ was.0, subst (Firsts (take (i + 1) es)) (sym w.cues-is) right)
      | else-is_cue w ↦
          let right = firsts_skip es i c.loop-i.cues was.1 e c.loop-i-test.true c.index-entries-i.is (sym w.if-is_cue.ensures) in
          (ap length w.cues-is ∙ was.0, subst (Firsts (take (i + 1) es)) (sym w.cues-is) right)
    ]

pub returns : goal.returns
returns g c =
    let es = c.args.entries.now in
    let all = take_all c.loop-i.i es c.loop-i-test.false in
    table_notes es c.loop-i.cues (subst (λ front. Firsts front c.loop-i.cues) all c.loop-i.invariant.1)
