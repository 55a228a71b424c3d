use Rattle.std.proofs.Common.{true, ◌∙◌, sym, rules, tests}
use Rattle.std.proofs.lemmas.Iterator.{YieldsList-from_slice}
use Rattle.std.proofs.lemmas.Iterator.Search.{any_from_yields_List}
use Rattle.history.specs.Entries.{by}
use Rattle.history.proofs.By.{acted_of_cue}
use Rattle.history.proofs.has_acted.Goals as goal

pub returns-then-is_cue : goal.returns-then-is_cue
returns-then-is_cue g c =
    any_from_yields_List (by c.args.cue (λ a. true)) _ _ c.any.result c.any.ensures.ran (YieldsList-from_slice c.args.entries.now cc) (λ x b q k. search (rules, tests))
    ∙ acted_of_cue (λ a. true) c.args.entries.now c.args.cue (sym c.if-is_cue.ensures)
