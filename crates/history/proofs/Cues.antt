-- The tests of a number, and of an act, say what is told by places and acts.
use Rattle.std.proofs.Common.{◌≡◌, ℕ, zero, suc, ◌-◌, Bool, true, false, not, eqb, ◌⊎◌, List, [], ◌∷◌, length, get_or, Some, sym, refl, ap, ◌∙◌, inl, inr, arith}
use Rattle.std.specs.List.{slice_get}
use Rattle.std.proofs.lemmas.List.{take_all}
use Rattle.std.proofs.lemmas.Option.{slice_get_within, get_or_from_slice_get}
use Rattle.std.proofs.lemmas.Bool.{false≢true, and_from, and_parts, eqb-true, or_cases}
use Rattle.lists.specs.Lists.{some}
use Rattle.lists.proofs.Places.{some_at}
use Rattle.orders.specs.Least.{Stands}
use Rattle.orders.proofs.Listed.{among_is}
use Rattle.history.specs.declared.Act.{Act}
use Rattle.history.specs.declared.Act.TheVariants as act
use Rattle.history.specs.declared.Ending.{Ending}
use Rattle.history.specs.declared.Ending.TheVariants as ending
use Rattle.history.specs.declared.Entry.{Entry}
use Rattle.history.specs.Cues.{Did, HasEntry, HasEnded, CueIsTold, EndingIsTold}
use Rattle.history.specs.Endings.{act_of}
use Rattle.history.specs.Entries.{is_cue, is_commit, is_abort, ends, by, acted, committed, aborted, ended, opened}
use Rattle.history.specs.Marked.{marked}
use Rattle.history.specs.Order.{committed_cues}
use Rattle.history.specs.Places.{IsCue, entries_before}
use Rattle.history.proofs.Places.{cue_is, is_of_cue, before_did, entry_is, act_commit, act_abort, committed_before, before_committed, aborted_before, before_aborted, ended_before, before_ended, not_fact, fact_not}

module _ {K : Type 0} (es : List (Entry K)) (n : ℕ) where
  -- before the place after the last stand all entries
  whole : entries_before (suc (length es)) es ≡ es
  whole = take_all (length es) es (omega arith)

  pub entry_to : acted (λ a. true) es n ≡ true → HasEntry es n
  entry_to h =
      let s = and_parts (is_cue n) (some (by n (λ a. true)) es) h in
      let r = some_at (by n (λ a. true)) es s.1 in
      let e = r.1 in
      let t = and_parts (eqb e.cue n) true r.3 in
      let within = slice_get_within es r.0 e r.2 in (
        e.act,
        record {
          cue = cue_is n s.0;
          place = suc r.0;
          before = omega (arith, within);
          entry = entry_is es (suc r.0) n e.act e r.2 (eqb-true e.cue n t.0) refl;
        },
      )

  pub entry_from : HasEntry es n → acted (λ a. true) es n ≡ true
  entry_from h =
      sym (ap (λ (xs : List (Entry K)). acted (λ a. true) xs n) whole) ∙ before_did (λ a. true) h.0 es (suc (length es)) n refl h.1

  commit_to : committed es n ≡ true → Did es n act.Commit
  commit_to h = committed_before es (suc (length es)) n (ap (λ (xs : List (Entry K)). committed xs n) whole ∙ h)

  commit_from : Did es n act.Commit → committed es n ≡ true
  commit_from d = sym (ap (λ (xs : List (Entry K)). committed xs n) whole) ∙ before_committed es (suc (length es)) n d

  abort_to : aborted es n ≡ true → Did es n act.Abort
  abort_to h = aborted_before es (suc (length es)) n (ap (λ (xs : List (Entry K)). aborted xs n) whole ∙ h)

  abort_from : Did es n act.Abort → aborted es n ≡ true
  abort_from d = sym (ap (λ (xs : List (Entry K)). aborted xs n) whole) ∙ before_aborted es (suc (length es)) n d

  pub end_to : ended es n ≡ true → HasEnded es n
  end_to h = ended_before es (suc (length es)) n (ap (λ (xs : List (Entry K)). ended xs n) whole ∙ h)

  pub end_from : HasEnded es n → ended es n ≡ true
  end_from d = sym (ap (λ (xs : List (Entry K)). ended xs n) whole) ∙ before_ended es (suc (length es)) n d

  open_to : opened es n ≡ true → HasEntry es n × (HasEnded es n → ⊥)
  open_to h =
      let s = and_parts (acted (λ a. true) es n) (not (ended es n)) h in
      (entry_to s.0, not_fact (ended es n) end_from s.1)

  open_from : HasEntry es n × (HasEnded es n → ⊥) → opened es n ≡ true
  open_from h =
      and_from (acted (λ a. true) es n) (not (ended es n)) (entry_from h.0)
      (fact_not (ended es n) end_to h.1)

  listed_to : Stands n (committed_cues es) → Did es n act.Commit
  listed_to s = commit_to ((among_is.members (committed es) n).0 s).2

  listed_from : Did es n act.Commit → Stands n (committed_cues es)
  listed_from d = (among_is.members (committed es) n).1 (d.cue.low, d.cue.high, commit_from d)

-- a cell that is set
cell_to : (cues : List Bool) (i : ℕ) → get_or cues i false ≡ true → slice_get cues i ≡ Some true
cell_to [] i h = absurd (false≢true h)
cell_to (b ∷ cues) zero h = ap Some h
cell_to (b ∷ cues) (suc i) h = cell_to cues i h

marked_to : (cues : List Bool) (n : ℕ) → marked cues n ≡ true → IsCue n × (slice_get cues (n - 1) ≡ Some true)
marked_to cues n h =
    let s = and_parts (is_cue n) (get_or cues (n - 1) false) h in
    (cue_is n s.0, cell_to cues (n - 1) s.1)

marked_from : (cues : List Bool) (n : ℕ) → IsCue n × (slice_get cues (n - 1) ≡ Some true) → marked cues n ≡ true
marked_from cues n h =
    and_from (is_cue n) (get_or cues (n - 1) false) (is_of_cue n h.0) (get_or_from_slice_get cues (n - 1) true false h.1)

pub cue_is_told : (K : Type 0) → CueIsTold K
cue_is_told K =
    record {
      number = λ n. (cue_is n, is_of_cue n);
      has_entry = λ es n. (entry_to es n, entry_from es n);
      did_commit = λ es n. (commit_to es n, commit_from es n);
      did_abort = λ es n. (abort_to es n, abort_from es n);
      did_end = λ es n. (end_to es n, end_from es n);
      is_open = λ es n. (open_to es n, open_from es n);
      in_table = λ cues n. (marked_to cues n, marked_from cues n);
      is_listed = λ es n. (listed_to es n, listed_from es n);
      list_rises = λ es. among_is.rises (committed es);
    }

module _ {K : Type 0} where
  ends_to : (a : Act K) → ends a ≡ true → (a ≡ act.Commit) ⊎ (a ≡ act.Abort)
  ends_to a h = elim (or_cases (is_commit a) (is_abort a) h) [ inl c ↦ inl (act_commit a c) | inr b ↦ inr (act_abort a b) ]

  ends_from : (a : Act K) → (a ≡ act.Commit) ⊎ (a ≡ act.Abort) → ends a ≡ true
  ends_from a (inl e) = ap ends e
  ends_from a (inr e) = ap ends e

  by_commit_only : (e : Ending) → act_of {K = K} e ≡ act.Commit → e ≡ ending.Commit
  by_commit_only ending.Commit h = refl
  by_commit_only ending.Abort h = absurd (false≢true (ap is_commit h))

  by_abort_only : (e : Ending) → act_of {K = K} e ≡ act.Abort → e ≡ ending.Abort
  by_abort_only ending.Commit h = absurd (false≢true (ap is_abort h))
  by_abort_only ending.Abort h = refl

pub ending_is_told : (K : Type 0) → EndingIsTold K
ending_is_told K =
    record {
      commit_alone = λ a. (act_commit a, λ e. ap is_commit e);
      abort_alone = λ a. (act_abort a, λ e. ap is_abort e);
      these_two = λ a. (ends_to a, ends_from a);
      by_commit = λ e. (by_commit_only e, λ h. ap act_of h);
      by_abort = λ e. (by_abort_only e, λ h. ap act_of h);
    }
