use Rattle.std.proofs.Common.{rules, tests, of_calls, ◌≡◌, ◌+◌, drop, sym, ◌∙◌}
use Rattle.std.specs.List.{enumerate_from, find}
use Rattle.std.specs.Option.{option_map}
use Rattle.std.proofs.lemmas.Iterator.{YieldsList-from_slice}
use Rattle.std.proofs.lemmas.Iterator.Adapters.{YieldsList-from_skip}
use Rattle.std.proofs.lemmas.Iterator.Consumers.{YieldsList-from_enumerate}
use Rattle.std.proofs.lemmas.Iterator.Search.{find_from_yields_List}
use Rattle.recovery.proofs.Searches.{at_front, first_from_skip}
use Rattle.recovery.proofs.first_break.Goals as goal

pub returns : goal.returns
returns g c = record {
  place = search rules;
  first = λ rule computes.
      let es = c.args.entries.now in
      let n = c.args.from in
      let found : option_map (λ x. (x.0, x.1.now)) c.find.result ≡ find (at_front rule es) (drop n (enumerate_from 0 es)) =
      find_from_yields_List (at_front rule es) _ _ c.find.result c.find.ensures.ran (YieldsList-from_skip n (YieldsList-from_enumerate (YieldsList-from_slice es (cc)) (cc)) (cc)) (λ x b q k. (search (rules, tests), computes x.0 x.1 b (search (of_calls, tests)))) in
      let mapped : c.map.result ≡ option_map (λ q. q.0 + 1) c.find.result = search rules in
      mapped ∙ search rules ∙ sym (first_from_skip rule n es);
}
