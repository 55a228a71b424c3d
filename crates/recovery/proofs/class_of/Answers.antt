use Rattle.std.proofs.Common.{rules, tests}
use Rattle.recovery.specs.Breaks.{breaks_recoverable, breaks_cascadeless, breaks_strict}
use Rattle.recovery.proofs.ByPlaces.{class_right}
use Rattle.recovery.proofs.ClassLaws.{class_strict, class_cascadeless, class_recoverable, class_not_recoverable}
use Rattle.recovery.proofs.class_of.Goals as goal

pub returns-in_default : goal.returns-in_default
returns-in_default g c =
    let alike = g.K.Item.alike in
    let es = c.args.entries.now in
    let is =
    class_strict alike es
    (c.in_default.ensures.first (breaks_strict alike) (λ i e r k. search (rules, tests))) in
    record { class = is; breaks = class_right alike es _ is }

pub returns-in_default-first_break : goal.returns-in_default-first_break
returns-in_default-first_break g c =
    let alike = g.K.Item.alike in
    let es = c.args.entries.now in
    let is =
    class_cascadeless alike es c.in-Some.strict
    (c.in-Some.ensures.first (breaks_strict alike) (λ i e r k. search (rules, tests)))
    (c.in_default-first_break.ensures.first (breaks_cascadeless alike) (λ i e r k. search (rules, tests))) in
    record { class = is; breaks = class_right alike es _ is }

pub returns-in-Some-first_break-2 : goal.returns-in-Some-first_break-2
returns-in-Some-first_break-2 g c =
    let alike = g.K.Item.alike in
    let es = c.args.entries.now in
    let is =
    class_not_recoverable alike es c.in-Some.strict c.in-Some-first_break.cascadeless
    (c.in-Some.ensures.first (breaks_strict alike) (λ i e r k. search (rules, tests)))
    (c.in-Some-first_break.ensures.first (breaks_cascadeless alike) (λ i e r k. search (rules, tests)))
    c.in-Some-first_break-2.place
    (c.in-Some-first_break-2.ensures.first (breaks_recoverable alike) (λ i e r k. search (rules, tests))) in
    record { class = is; breaks = class_right alike es _ is }

pub returns-in-None : goal.returns-in-None
returns-in-None g c =
    let alike = g.K.Item.alike in
    let es = c.args.entries.now in
    let is =
    class_recoverable alike es c.in-Some.strict c.in-Some-first_break.cascadeless
    (c.in-Some.ensures.first (breaks_strict alike) (λ i e r k. search (rules, tests)))
    (c.in-Some-first_break.ensures.first (breaks_cascadeless alike) (λ i e r k. search (rules, tests)))
    (c.in-None.ensures.first (breaks_recoverable alike) (λ i e r k. search (rules, tests))) in
    record { class = is; breaks = class_right alike es _ is }
