use Rattle.std.proofs.Common.{rules, tests, Bool, not, ◌&&◌, eqb, List, [], sym, ◌∙◌}
use Rattle.std.proofs.lemmas.Iterator.{YieldsList-from_slice}
use Rattle.std.proofs.lemmas.Iterator.Consumers.{YieldsList-from_enumerate}
use Rattle.std.proofs.lemmas.Iterator.Search.{any_from_yields_List}
use Rattle.history.specs.declared.Entry.{Entry}
use Rattle.history.specs.Entries.{committed}
use Rattle.recovery.specs.Breaks.{reads_from}
use Rattle.recovery.proofs.Searches.{at_front, somewhere_any}
use Rattle.recovery.proofs.past.Past.owes.Goals as goal

pub returns : goal.returns
returns g c =
    let seen = c.args.self.now.entries.now in
    let test : List (Entry _) → Entry _ → Bool = λ before r. eqb r.cue c.args.cue && reads_from g.K.Item.alike (λ j. not (committed seen j)) before r in
    let found = any_from_yields_List (at_front test seen) _ _ c.any.result c.any.ensures.ran (YieldsList-from_enumerate (YieldsList-from_slice seen (cc)) (cc)) (λ x b q k. search (rules, tests)) in
    found ∙ sym (somewhere_any test [] seen)
