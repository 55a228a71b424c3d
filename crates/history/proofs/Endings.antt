-- How a cue ends. Assumes nothing.
use Rattle.std.proofs.Common.{◌≡◌, ℕ, Bool, true, ◌&&◌, ◌||◌, eqb, List, ◌++◌, ap, ◌∙◌}
use mathlib.Core.Bool.{and-or_distrib_left}
use Rattle.std.proofs.lemmas.Bool.{and_parts, and_from}
use Rattle.lists.specs.Lists.{some}
use Rattle.lists.proofs.Some.{some_front, some_either}
use Rattle.history.specs.declared.Act.{Act}
use Rattle.history.specs.declared.Entry.{Entry}
use Rattle.history.specs.Entries.{is_cue, is_commit, is_abort, ends, by, acted, committed, aborted, ended}

module _ {K : Type 0} where
  -- by a commit or an abort
  pub ended_either : (es : List (Entry K)) (n : ℕ) → ended es n ≡ (committed es n || aborted es n)
  ended_either es n =
      ap (λ (t : Bool). is_cue n && t) (some_either (by n ends) (by n is_commit) (by n is_abort) (λ e. and-or_distrib_left (eqb e.cue n) (is_commit e.act) (is_abort e.act)) es)
      ∙ and-or_distrib_left (is_cue n) (some (by n is_commit) es) (some (by n is_abort) es)

  -- what a cue has done stays done
  pub acted_stays : (test : Act K → Bool) (es more : List (Entry K)) (n : ℕ) → acted test es n ≡ true → acted test (es ++ more) n ≡ true
  acted_stays test es more n h =
      let p = and_parts (is_cue n) (some (by n test) es) h in
      and_from (is_cue n) (some (by n test) (es ++ more)) p.0 (some_front (by n test) es more p.1)
