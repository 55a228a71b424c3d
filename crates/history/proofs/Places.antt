-- What the tests of a cue say of the places before an entry.
use Rattle.std.proofs.Common.{◌≡◌, ℕ, zero, suc, ◌<◌, Bool, true, false, not, ◌||◌, eqb, List, Some, sym, refl, ap, ◌∙◌, inl, inr, arith}
use Rattle.std.proofs.lemmas.Bool.{false≢true, and_from, and_parts, both_ways, cases_Bool, eq-eqb, eqb-true, not-true, not_from_false, or_cases, or_left, or_right}
use Rattle.lists.specs.Lists.{some}
use Rattle.lists.proofs.Places.{get_front, front_get, some_at, at_some}
use Rattle.history.specs.declared.Act.{Act}
use Rattle.history.specs.declared.Act.TheVariants.{Read, Write, Commit, Abort}
use Rattle.history.specs.declared.Entry.{Entry}
use Rattle.history.specs.Entries.{is_cue, is_commit, is_abort, by, acted, committed, aborted, ended}
use Rattle.history.specs.Conflicts.{reads, writes, touches}
use Rattle.history.specs.Places.{IsCue, entry_at, entries_before, EntryIs, item_read, item_written, DidBefore, CommittedBefore, AbortedBefore, EndedBefore}
use Rattle.history.proofs.Committed.{is_cue_lem, cue_low, cue_high}
use Rattle.history.proofs.Endings.{ended_either}

pub cue_is : (n : ℕ) → is_cue n ≡ true → IsCue n
cue_is n h = record { low = cue_low n h; high = cue_high n h }

pub is_of_cue : (n : ℕ) → IsCue n → is_cue n ≡ true
is_of_cue n h = is_cue_lem n h.low h.high

module _ {K : Type 0} where
  pub at_before : (es : List (Entry K)) (q p : ℕ) (e : Entry K) → entry_at (entries_before q es) p ≡ Some e → (p < q) × (entry_at es p ≡ Some e)
  at_before es zero zero e h = cc
  at_before es zero (suc j) e h = cc
  at_before es (suc i) zero e h = cc
  at_before es (suc i) (suc j) e h = let r = get_front i es j e h in (omega (arith, r.0), r.1)

  pub before_at : (es : List (Entry K)) (q p : ℕ) (e : Entry K) → p < q → entry_at es p ≡ Some e → entry_at (entries_before q es) p ≡ Some e
  before_at es zero p e l h = absurd (omega arith)
  before_at es (suc i) zero e l h = cc
  before_at es (suc i) (suc j) e l h = front_get i es j e (omega arith) h

  -- an entry by its cue and its act
  pub entry_is : (es : List (Entry K)) (p n : ℕ) (a : Act K) (e : Entry K) → entry_at es p ≡ Some e → e.cue ≡ n → e.act ≡ a → EntryIs es p n a
  entry_is es p n a e h cue act = h ∙ (λ i. Some (record { cue = cue i; act = act i }))

  module _ (test : Act K → Bool) (a : Act K) (es : List (Entry K)) (q n : ℕ) where
    did_before : ((b : Act K) → test b ≡ true → b ≡ a) → acted test (entries_before q es) n ≡ true → DidBefore es q n a
    did_before only h =
        let s = and_parts (is_cue n) (some (by n test) (entries_before q es)) h in
        let r = some_at (by n test) (entries_before q es) s.1 in
        let e = r.1 in
        let t = and_parts (eqb e.cue n) (test e.act) r.3 in
        let there = at_before es q (suc r.0) e r.2 in
        record {
          cue = cue_is n s.0;
          place = suc r.0;
          before = there.0;
          entry = entry_is es (suc r.0) n a e there.1 (eqb-true e.cue n t.0) (only e.act t.1);
        }

    pub before_did : test a ≡ true → DidBefore es q n a → acted test (entries_before q es) n ≡ true
    before_did passes d = and_from (is_cue n) (some (by n test) (entries_before q es)) (is_of_cue n d.cue) (go d.place d.before d.entry)
      where
        go : (p : ℕ) → p < q → EntryIs es p n a → some (by n test) (entries_before q es) ≡ true
        go zero l h = cc
        go (suc i) l h =
            at_some (by n test) (entries_before q es) i (record { cue = n; act = a })
            (before_at es q (suc i) (record { cue = n; act = a }) l h)
            (and_from (eqb n n) (test a) (eq-eqb n n refl) passes)

  only_commit : (b : Act K) → is_commit b ≡ true → b ≡ Commit
  only_commit (Read k) h = absurd (false≢true h)
  only_commit (Write k) h = absurd (false≢true h)
  only_commit Commit h = refl
  only_commit Abort h = absurd (false≢true h)

  only_abort : (b : Act K) → is_abort b ≡ true → b ≡ Abort
  only_abort (Read k) h = absurd (false≢true h)
  only_abort (Write k) h = absurd (false≢true h)
  only_abort Commit h = absurd (false≢true h)
  only_abort Abort h = refl

  pub act_commit : (b : Act K) → is_commit b ≡ true → b ≡ Commit
  act_commit b h = only_commit b h

  pub act_abort : (b : Act K) → is_abort b ≡ true → b ≡ Abort
  act_abort b h = only_abort b h

  module _ (es : List (Entry K)) (q n : ℕ) where
    pub committed_before : committed (entries_before q es) n ≡ true → CommittedBefore es q n
    committed_before h = did_before is_commit Commit es q n only_commit h

    pub before_committed : CommittedBefore es q n → committed (entries_before q es) n ≡ true
    before_committed d = before_did is_commit Commit es q n refl d

    pub aborted_before : aborted (entries_before q es) n ≡ true → AbortedBefore es q n
    aborted_before h = did_before is_abort Abort es q n only_abort h

    pub before_aborted : AbortedBefore es q n → aborted (entries_before q es) n ≡ true
    before_aborted d = before_did is_abort Abort es q n refl d

    pub ended_before : ended (entries_before q es) n ≡ true → EndedBefore es q n
    ended_before h =
        elim (or_cases (committed (entries_before q es) n) (aborted (entries_before q es) n) (sym (ended_either (entries_before q es) n) ∙ h)) [
          | inl c ↦ inl (committed_before c)
          | inr a ↦ inr (aborted_before a)
        ]

    pub before_ended : EndedBefore es q n → ended (entries_before q es) n ≡ true
    before_ended (inl c) =
        ended_either (entries_before q es) n ∙ or_left (committed (entries_before q es) n) (aborted (entries_before q es) n) (before_committed c)
    before_ended (inr a) =
        ended_either (entries_before q es) n ∙ or_right (committed (entries_before q es) n) (aborted (entries_before q es) n) (before_aborted a)

-- a test and a fact that say the same: where the one fails the other does
pub not_fact : (t : Bool) {P : Type 0} → (P → t ≡ true) → not t ≡ true → P → ⊥
not_fact t f n p = both_ways t (not-true t n) (f p)

pub fact_not : (t : Bool) {P : Type 0} → (t ≡ true → P) → (P → ⊥) → not t ≡ true
fact_not t f n = elim (cases_Bool t) [ inl h ↦ absurd (n (f h)) | inr h ↦ not_from_false t h ]

-- the items of acts
module _ {K : Type 0} (test : K → Bool) where
  pub reads_item : (a : Act K) → reads test a ≡ true → (k : K) × (item_read a ≡ Some k) × (test k ≡ true)
  reads_item (Read k) h = (k, refl, h)
  reads_item (Write k) h = absurd (false≢true h)
  reads_item Commit h = absurd (false≢true h)
  reads_item Abort h = absurd (false≢true h)

  pub item_reads : (a : Act K) (k : K) → item_read a ≡ Some k → test k ≡ true → reads test a ≡ true
  item_reads (Read j) k h t = let e : j ≡ k = cc in ap test e ∙ t
  item_reads (Write j) k h t = cc
  item_reads Commit k h t = cc
  item_reads Abort k h t = cc

  pub writes_item : (a : Act K) → writes test a ≡ true → (k : K) × (item_written a ≡ Some k) × (test k ≡ true)
  writes_item (Read k) h = absurd (false≢true h)
  writes_item (Write k) h = (k, refl, h)
  writes_item Commit h = absurd (false≢true h)
  writes_item Abort h = absurd (false≢true h)

  pub item_writes : (a : Act K) (k : K) → item_written a ≡ Some k → test k ≡ true → writes test a ≡ true
  item_writes (Read j) k h t = cc
  item_writes (Write j) k h t = let e : j ≡ k = cc in ap test e ∙ t
  item_writes Commit k h t = cc
  item_writes Abort k h t = cc

  pub touches_either : (a : Act K) → touches test a ≡ (reads test a || writes test a)
  touches_either (Read k) = go (test k)
    where
      go : (t : Bool) → t ≡ (t || false)
      go true = refl
      go false = refl
  touches_either (Write k) = refl
  touches_either Commit = refl
  touches_either Abort = refl
