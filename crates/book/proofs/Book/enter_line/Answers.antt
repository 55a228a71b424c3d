use Rattle.std.proofs.Common.{Ok, Err, sym, ap, ◌∙◌}
use Rattle.std.proofs.lemmas.Result.{err_from_is_err_and}
use Rattle.book.specs.Entering.{accepted, grown, room}
use Rattle.book.specs.Reading.{told, added}
use Rattle.book.proofs.Entering.{lays_none}
use Rattle.book.proofs.Reading.{next_end, next_line, next_book}
use Rattle.book.proofs.Book.enter_line.Goals as goal

pub returns-in_err-entry : goal.returns-in_err-entry
returns-in_err-entry g c =
    let self = c.args.self.now in
    let p = err_from_is_err_and c.from_residual.result c.from_residual.ensures.1 in
    let next = next_line g.K.Item.parsed (room self) (accepted self) c.args.line.now _ (sym c.in_err-entry.ensures) in
    record {
      answer = p.1 ∙ ap Err p.2 ∙ sym (ap told next);
      grows = sym (ap (added (accepted self)) next);
      lays = lays_none self;
    }

pub returns-in_default : goal.returns-in_default
returns-in_default g c =
    let self = c.args.self.now in
    let next = next_end g.K.Item.parsed (room self) (accepted self) c.args.line.now (sym c.read_line.ensures ∙ c.in_ok-entry.was ∙ ap Ok c.in_default.is) in
    record { answer = sym (ap told next); grows = sym (ap (added (accepted self)) next); lays = lays_none self }

pub returns-in_err-enter : goal.returns-in_err-enter
returns-in_err-enter g c =
    let self = c.args.self.now in
    let p = err_from_is_err_and c.from_residual-in_err-enter.result c.from_residual-in_err-enter.ensures.1 in
    let was = c.in_err-enter.was in
    let next =
    next_book g.K.Item.parsed (room self) (accepted self) c.args.line.now c.in-Some.entry (Err c.in_err-enter.field-0.0)
    (sym c.read_line.ensures ∙ c.in_ok-entry.was ∙ ap Ok c.in-Some.is)
    (sym c.enter.ensures.answer ∙ was) in
    record {
      answer = p.1 ∙ ap Err p.2 ∙ sym (ap told next);
      grows = c.enter.ensures.grows ∙ ap (λ r. grown r c.in-Some.entry (accepted self)) was ∙ sym (ap (added (accepted self)) next);
      lays = c.enter.ensures.lays;
    }

pub returns-in_ok-enter : goal.returns-in_ok-enter
returns-in_ok-enter g c =
    let self = c.args.self.now in
    let was = c.in_ok-enter.was in
    let next =
    next_book g.K.Item.parsed (room self) (accepted self) c.args.line.now c.in-Some.entry (Ok c.in_ok-enter.field-0)
    (sym c.read_line.ensures ∙ c.in_ok-entry.was ∙ ap Ok c.in-Some.is)
    (sym c.enter.ensures.answer ∙ was) in
    record {
      answer = sym (ap told next);
      grows = c.enter.ensures.grows ∙ ap (λ r. grown r c.in-Some.entry (accepted self)) was ∙ sym (ap (added (accepted self)) next);
      lays = c.enter.ensures.lays;
    }
