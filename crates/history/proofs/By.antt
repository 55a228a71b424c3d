-- Whether an entry is of a cue and its act passes. Assumes nothing.
use Rattle.std.proofs.Common.{◌≡◌, ℕ, Bool, true, false, ◌&&◌, eqb, List, sym, ap}
use Rattle.std.proofs.lemmas.Bool.{and_from, and_left, and_right, eq-eqb, ne_eqb}
use Rattle.history.specs.declared.Act.{Act}
use Rattle.history.specs.declared.Entry.{Entry}
use Rattle.lists.specs.Lists.{some}
use Rattle.history.specs.Entries.{is_cue, by, acted}

module _ {K : Type 0} (n : ℕ) (test : Act K → Bool) (e : Entry K) where
  pub by_yes : e.cue ≡ n → test e.act ≡ true → by n test e ≡ true
  by_yes cue act = and_from (eqb e.cue n) (test e.act) (eq-eqb e.cue n cue) act

  pub by_no_cue : (e.cue ≡ n → ⊥) → by n test e ≡ false
  by_no_cue cue = and_left (eqb e.cue n) (test e.act) (ne_eqb e.cue n cue)

  pub by_no_act : test e.act ≡ false → by n test e ≡ false
  by_no_act act = and_right (eqb e.cue n) (test e.act) act

-- of a cue that can be one, all is said by its entries
pub acted_of_cue : {K : Type 0} (test : Act K → Bool) (es : List (Entry K)) (n : ℕ) → is_cue n ≡ true → some (by n test) es ≡ acted test es n
acted_of_cue test es n cue = ap (λ (t : Bool). t && some (by n test) es) (sym cue)
