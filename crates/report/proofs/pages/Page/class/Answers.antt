use Rattle.std.proofs.Common.{ap, ◌∙◌, arith}
use Rattle.std.proofs.lemmas.List.{length-take}
use Rattle.recovery.specs.Classes.{class_place}
use Rattle.book.specs.Entering.{accepted}
use Rattle.report.proofs.Bounds.{place_within}
use Rattle.report.proofs.pages.Page.class.Goals as goal

pub overflow_cast-place : goal.overflow_cast-place
overflow_cast-place g c =
    let book = c.args.book.now in
    omega (arith, c.place.ensures ∙ ap class_place c.class-class.ensures.class, place_within g.K.Item.alike (accepted book), length-take book.len book.memory.now, book.few)
