use Rattle.std.proofs.Common.{rules, tests, ◌≡◌, ℕ, Bool, not, ◌&&◌, sym, ap, ◌∙◌}
use Rattle.std.specs.Option.{option_map}
use Rattle.std.proofs.lemmas.Iterator.Adapters.{YieldsList-from_rev_slice}
use Rattle.std.proofs.lemmas.Iterator.Search.{find_from_yields_List}
use Rattle.history.specs.declared.Entry.{Entry}
use Rattle.history.specs.Entries.{aborted}
use Rattle.history.specs.Conflicts.{writes}
use Rattle.recovery.proofs.Searches.{map_now, last_find, last_placed}
use Rattle.recovery.proofs.past.Past.source_of.Goals as goal

pub returns : goal.returns
returns g c =
    let seen = c.args.self.now.entries.now in
    let test : Entry _ → Bool = λ w. writes (g.K.Item.alike c.args.item) w.act && not (aborted seen w.cue) in
    let found = find_from_yields_List test _ _ c.find.result c.find.ensures.ran (YieldsList-from_rev_slice seen (cc)) (λ x b q k. search (rules, tests)) in
    let mapped : c.map.result ≡ option_map (λ w. w.now.cue) c.find.result = search rules in
    let cue : Entry _ → ℕ = λ w. w.cue in
    let last = last_placed cue test 1 seen ∙ ap (option_map cue) (last_find test seen) in
    mapped ∙ map_now cue c.find.result ∙ ap (option_map cue) found ∙ sym last
