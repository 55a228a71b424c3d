use Rattle.std.proofs.Common.{Some, sym, ap, ◌∙◌, rules}
use Rattle.book.specs.Entering.{room, accepted}
use Rattle.runs.specs.Holding.{tickets_of, set_ticket, so_far}
use Rattle.runs.specs.Runs.{after}
use Rattle.runs.proofs.Doing.{end_refused}
use Rattle.runs.proofs.perform_one.Goals as goal

pub returns-in-Err-clause-after : goal.returns-in-Err-clause-after
returns-in-Err-clause-after g c =
    let b = c.args.book.now in
    let h = c.args.tickets.now in
    let n = c.in-End.number in
    let parsed = g.K.Item.parsed in
    let tickets = c.put_back.ensures.tickets ∙ ap (λ ts. set_ticket ts n (Some c.in-Err.ticket)) c.take.ensures.tickets in
    (λ i. record { entries = c.in-Err.ensures.grows i; tickets = tickets i })
    ∙ end_refused parsed (room b) (accepted b) (tickets_of h) n c.in-End.ending c.in_ok-ticket-in-End.ticket c.in-Err.ticket c.in-Err.refusal (search rules) c.in-Err.ensures.answer
    ∙ ap (after parsed (room b) (so_far b h)) (sym c.in-End.is)
