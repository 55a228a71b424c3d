use Rattle.std.proofs.Common.{◌++◌, length, drop, None, Ok, refl, ap, ◌∙◌}
use Rattle.std.specs.Bool.{then_some}
use Rattle.equivalence.specs.Laws.{Sameness}
use Rattle.views.specs.Shown.{rest_of}
use Rattle.views.proofs.Answering.{start, view_hidden, view_shown, start_long, taken_answer, taken_list, none_list}
use Rattle.views.proofs.AnswerRight.{shown_right}
use Rattle.views.proofs.views_of.Given.{Over}
use Rattle.views.proofs.views_of.Goals as goal

sameness : (g : Over) → Sameness g.K.Item.alike
sameness g = record { reflexive = g.met.K.Item.reflexive; symmetric = g.met.K.Item.symmetric; transitive = g.met.K.Item.transitive }

pub returns-in_default-constraints_of : goal.returns-in_default-constraints_of
returns-in_default-constraints_of g c =
    let alike = g.K.Item.alike in
    let es = c.args.entries.now in
    let list = c.args.list.now in
    let m = c.in-Some.members in
    let us = c.numbers-count.result.now in
    let none = view_hidden alike (sameness g) es c.in_default-constraints_of.ensures in
    let answer = taken_answer alike es list m c.in-Some.ensures.some us c.numbers-count.ensures c.if-list-count.false None none in
    let cells = none_list alike es list m c.in-Some.ensures.some us c.numbers-count.ensures c.if-list-count.false None none refl in
    record { answer = answer; list = cells; right = shown_right alike (sameness g) es list _ _ answer cells }

pub extend-found-requires : goal.extend-found-requires
extend-found-requires g c =
    start_long g.K.Item.alike c.args.entries.now c.args.list.now c.in-Some.members c.in-Some.ensures.some c.numbers-count.result.now c.numbers-count.ensures c.if-list-count.false
    c.in-Some-constraints_of.constraints c.in-Some-constraints_of.ensures

pub returns : goal.returns
returns g c =
    let alike = g.K.Item.alike in
    let es = c.args.entries.now in
    let list = c.args.list.now in
    let m = c.in-Some.members in
    let us = c.numbers-count.result.now in
    let t = c.in-Some-constraints_of.constraints in
    let rest = rest_of (start t) in
    let found = view_shown alike (sameness g) es t c.in-Some-constraints_of.ensures in
    let answer =
    ap (λ o. Ok o) (c.then_some.ensures ∙ ap (λ b. then_some b (length us)) c.extend-found.ensures.found)
    ∙ taken_answer alike es list m c.in-Some.ensures.some us c.numbers-count.ensures c.if-list-count.false rest found in
    let cells =
    ap (λ zs. zs ++ drop (length us) list) c.extend-found.ensures.list
    ∙ taken_list alike es list m c.in-Some.ensures.some us c.numbers-count.ensures c.if-list-count.false rest found in
    record { answer = answer; list = cells; right = shown_right alike (sameness g) es list _ _ answer cells }
