-- Where recoverability, cascadelessness and strictness break. Assumes nothing.
-- Each break is a test of an entry e with the entries seen before it, so later entries do not change it.
use Rattle.std.specs.Prelude.{ℕ, zero, suc, Bool, false, not, ◌&&◌, List, [], Some, None, Option, ◌==◌}
use Rattle.lists.specs.Lists.{some, last_where, placed, somewhere, passes}
use Rattle.history.specs.declared.Entry.{Entry}
use Rattle.history.specs.Entries.{is_commit, committed, aborted, ended}
use Rattle.history.specs.Conflicts.{reads, writes, touches}

module _ {K : Type 0} where
  -- a write by another cue than e's, and the cue passes
  abbrev pub by_other : (ℕ → Bool) → Entry K → Entry K → Bool
  by_other test e w = not (w.cue == e.cue) && test w.cue

  abbrev pub found_by : (Entry K → Bool) → Option (ℕ × Entry K) → Bool
  found_by test None = false
  found_by test (Some p) = test p.1

  -- e breaks the rule at the place
  abbrev pub breaks : (List (Entry K) → Entry K → Bool) → List (Entry K) → ℕ → Bool
  breaks rule es zero = false
  breaks rule es (suc i) = passes rule [] es i

module _ {K : Type 0} (alike : K → K → Bool) where
  -- the write that a read of k reads from, with its place: the last of an item alike, leaving out writes of aborted cues
  abbrev pub source : List (Entry K) → K → Option (ℕ × Entry K)
  source seen k = last_where (λ p. writes (alike k) p.1.act && not (aborted seen p.1.cue)) (placed 1 seen)

  -- e reads from another cue, which passes
  abbrev pub reads_from : (ℕ → Bool) → List (Entry K) → Entry K → Bool
  reads_from test seen e = reads (λ k. found_by (by_other test e) (source seen k)) e.act

  -- at a commit of a cue that read from another which has not committed
  abbrev pub breaks_recoverable : List (Entry K) → Entry K → Bool
  breaks_recoverable seen e = is_commit e.act && somewhere (λ before r. (r.cue == e.cue) && reads_from (λ j. not (committed seen j)) before r) [] seen

  -- at a read from another cue that has not committed
  abbrev pub breaks_cascadeless : List (Entry K) → Entry K → Bool
  breaks_cascadeless seen e = reads_from (λ j. not (committed seen j)) seen e

  -- at a read or write of an item that another cue wrote which has not ended
  abbrev pub breaks_strict : List (Entry K) → Entry K → Bool
  breaks_strict seen e = touches (λ k. some (λ w. writes (alike k) w.act && by_other (λ j. not (ended seen j)) e w) seen) e.act
