use Rattle.std.proofs.Common.{sym, ap, ◌∙◌, arith}
use Rattle.items.specs.declared.Axis.{Axis}
use Rattle.items.specs.Kinds.{axis_in}
use Rattle.book.specs.Entering.{accepted}
use Rattle.book.specs.Reading.{Taken, lines_of}
use Rattle.report.proofs.Bounds.{line_few}
use Rattle.report.proofs.Writing.{new_read, answers_told}
use Rattle.report.proofs.pages.Page.report.Goals as goal

pub overflow_cast-fault : goal.overflow_cast-fault
overflow_cast-fault c =
    let new = c.new-book.result in
    let read = new_read new.memory.now (accepted new) _ c.args.sheet.now c.new-book.ensures.memory c.new-book.ensures.empty in
    omega (arith, line_few axis_in 2048 (lines_of c.args.sheet.now) c.in-Err.fault (sym (c.in-Err.ensures.answer ∙ ap (λ (t : Taken Axis). t.answer) read)))

pub returns-in-Ok : goal.returns-in-Ok
returns-in-Ok c =
    let new = c.new-book.result in
    let read = new_read new.memory.now (accepted new) _ c.args.sheet.now c.new-book.ensures.memory c.new-book.ensures.empty in
    let answer = c.in-Ok.ensures.answer ∙ ap (λ (t : Taken Axis). t.answer) read in
    let entries = c.in-Ok.ensures.grows ∙ ap (λ (t : Taken Axis). t.entries) read in
    answers_told c.args.sheet.now c.in-Ok.field-0 (accepted c.read_in.new.self) c.answers.result answer entries c.answers.ensures
