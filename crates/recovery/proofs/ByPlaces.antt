-- The tests of breaks, and the class, say what is told by places.
use Rattle.std.proofs.Common.{◌≡◌, ℕ, zero, suc, ◌+◌, ◌<◌, ◌≤◌, Bool, true, false, not, ◌&&◌, eqb, List, [], get_or, take, Some, None, Option, sym, refl, ap, ◌∙◌, subst, inl, inr, ◌⊎◌, arith}
use Rattle.std.specs.List.{slice_get}
use Rattle.std.proofs.lemmas.List.{take-take}
use Rattle.std.proofs.lemmas.Option.{slice_get_within, get_or_from_slice_get, slice_get-get_or}
use Rattle.std.proofs.lemmas.Bool.{false≢true, and_from, and_parts, and_left, and_right, both_ways, cases_Bool, cases_lt, eq-eqb, eqb-true, ne_eqb, not-true, not_from_false, or_cases, or_left, or_right}
use Rattle.lists.specs.Lists.{some, somewhere}
use Rattle.lists.proofs.Passes.{passes_within, passes_at, somewhere_at, passes_somewhere}
use Rattle.lists.proofs.Places.{some_at, at_some, last_at, at_last}
use Rattle.history.specs.declared.Act.TheVariants.{Commit}
use Rattle.history.specs.declared.Entry.{Entry}
use Rattle.history.specs.Entries.{is_commit, committed, aborted, ended}
use Rattle.history.specs.Conflicts.{reads, writes}
use Rattle.history.specs.Places.{entry_at, entries_before, EntryIs, item_read, ReadsAt, WritesAt, AbortedBefore}
use Rattle.history.proofs.Places.{at_before, before_at, entry_is, act_commit, committed_before, before_committed, aborted_before, before_aborted, ended_before, before_ended, not_fact, fact_not, reads_item, item_reads, writes_item, item_writes, touches_either}
use Rattle.recovery.specs.declared.Class.{Class}
use Rattle.recovery.specs.declared.Class.TheVariants.{NotRecoverable, Recoverable, Cascadeless, Strict}
use Rattle.recovery.specs.Breaks.{by_other, found_by, breaks, source, reads_from, breaks_recoverable, breaks_cascadeless, breaks_strict}
use Rattle.recovery.specs.Classes.{ranked, first_break, class_of}
use Rattle.recovery.specs.ReadsFrom.{Never, IsFirstBreak, ReadsFrom, StrictnessBreaks, CascadelessnessBreaks, RecoverabilityBreaks, IsClass}
use Rattle.recovery.specs.Laws.{SourceIsReadFrom, BreaksAreByPlaces, ClassIsByPlaces}
use Rattle.recovery.proofs.BreakLaws.{default, found_is, found_is_break, none_before, no_break}

module _ {K : Type 0} where
  -- the entry at a break, and the rule that it breaks after those before it
  rule_at : (rule : List (Entry K) → Entry K → Bool) (es : List (Entry K)) (q : ℕ) → breaks rule es q ≡ true → (e : Entry K) × (entry_at es q ≡ Some e) × (rule (entries_before q es) e ≡ true)
  rule_at rule es zero h = absurd (false≢true h)
  rule_at rule es (suc i) h =
      let within = passes_within rule [] es i h in
      let d = default es i within in
      (get_or es i d, slice_get-get_or es i d within, sym (passes_at rule [] es i d within) ∙ h)

  at_rule : (rule : List (Entry K) → Entry K → Bool) (es : List (Entry K)) (q : ℕ) (e : Entry K) → entry_at es q ≡ Some e → rule (entries_before q es) e ≡ true → breaks rule es q ≡ true
  at_rule rule es zero e h t = cc
  at_rule rule es (suc i) e h t =
      passes_at rule [] es i e (slice_get_within es i e h) ∙ ap (rule (take i es)) (get_or_from_slice_get es i e e h) ∙ t

  before_before : (es : List (Entry K)) (q r : ℕ) → r ≤ q → entries_before r (entries_before q es) ≡ entries_before r es
  before_before es q zero l = refl
  before_before es zero (suc a) l = absurd (omega arith)
  before_before es (suc b) (suc a) l = take-take a b es (omega arith)

-- cues that are not the same
differs : (m n : ℕ) → not (eqb m n) ≡ true → m ≡ n → ⊥
differs m n h e = both_ways (eqb m n) (not-true (eqb m n) h) (eq-eqb m n e)

differs_from : (m n : ℕ) → (m ≡ n → ⊥) → not (eqb m n) ≡ true
differs_from m n h = not_from_false (eqb m n) (ne_eqb m n h)

module _ {K : Type 0} (alike : K → K → Bool) (es : List (Entry K)) where
  -- a write of an item that is the same as k, by a cue that has not aborted
  abbrev counted : List (Entry K) → K → Entry K → Bool
  counted seen k w = writes (alike k) w.act && not (aborted seen w.cue)

  not_counted : (q : ℕ) (k : K) (w : Entry K) → writes (alike k) w.act ≡ true → counted (entries_before q es) k w ≡ false → AbortedBefore es q w.cue
  not_counted q k w written none =
      elim (cases_Bool (aborted (entries_before q es) w.cue)) [
        | inl t ↦ aborted_before es q w.cue t
        | inr f ↦ absurd (both_ways (counted (entries_before q es) k w) none (and_from (writes (alike k) w.act) (not (aborted (entries_before q es) w.cue)) written (not_from_false (aborted (entries_before q es) w.cue) f)))
      ]

  -- the source that is found is the write that the read reads from
  source_reads : (i q : ℕ) (k : K) (r : ℕ × Entry K) → ReadsAt es q i k → source alike (entries_before q es) k ≡ Some r → ReadsFrom alike es i r.1.cue r.0 q
  source_reads i q k r reader h =
      let seen = entries_before q es in
      let at = last_at (counted seen k) 1 seen r h in
      let parts = and_parts (writes (alike k) r.1.act) (not (aborted seen r.1.cue)) at.passes in
      let w = writes_item (alike k) r.1.act parts.0 in
      let there = at_before es q (suc at.index) r.1 at.element in
      let place : suc at.index ≡ r.0 = omega (arith, at.place) in
      record {
        item = k;
        written = w.0;
        reader = reader;
        writer = record { act = r.1.act; entry = subst (λ (p : ℕ). EntryIs es p r.1.cue r.1.act) place there.1; item = w.1 };
        same = w.2;
        before = omega (arith, there.0, place);
        stands = not_fact (aborted seen r.1.cue) (before_aborted es q r.1.cue) parts.1;
        last = λ p n v after before write same.
            later at.index at.last p n v (omega (arith, after, place)) before write same;
      }
    where
      later : (index : ℕ) → ((j : ℕ) (y : Entry K) → index < j → slice_get (entries_before q es) j ≡ Some y → counted (entries_before q es) k y ≡ false) → (p n : ℕ) (v : K) → suc index < p → p < q → WritesAt es p n v → alike k v ≡ true → AbortedBefore es q n
      later index last zero n v after before write same = absurd (omega arith)
      later index last (suc j) n v after before write same =
          not_counted q k (record { cue = n; act = write.act }) (item_writes (alike k) write.act v write.item same)
          (last j (record { cue = n; act = write.act }) (omega arith) (before_at es q (suc j) (record { cue = n; act = write.act }) before write.entry))

  reads_source : (i j p q : ℕ) (f : ReadsFrom alike es i j p q) → source alike (entries_before q es) f.item ≡ Some (p, record { cue = j; act = f.writer.act })
  reads_source i j zero q f = let z = f.writer.entry in cc
  reads_source i j (suc a) q f =
      let seen = entries_before q es in
      let w : Entry K = record { cue = j; act = f.writer.act } in
      let one : 1 + a ≡ suc a = omega arith in
      at_last (counted seen f.item) 1 seen a w
      (before_at es q (suc a) w f.before f.writer.entry)
      (and_from (writes (alike f.item) w.act) (not (aborted seen j)) (item_writes (alike f.item) w.act f.written f.writer.item f.same) (fact_not (aborted seen j) (aborted_before es q j) f.stands))
      (λ m y after there. elim (cases_Bool (writes (alike f.item) y.act)) [
        | inl t ↦
            let v = writes_item (alike f.item) y.act t in
            let at = at_before es q (suc m) y there in
            let gone = f.last (suc m) y.cue v.0 (omega (arith, after)) at.0 (record { act = y.act; entry = at.1; item = v.1 }) v.2 in
            and_right (writes (alike f.item) y.act) (not (aborted seen y.cue)) (ap not (before_aborted es q y.cue gone))
        | inr n ↦ and_left (writes (alike f.item) y.act) (not (aborted seen y.cue)) n
      ])
      ∙ (λ i. Some (one i, w))

  -- reading from another cue that passes
  module _ (test : ℕ → Bool) (q : ℕ) (e : Entry K) (here : entry_at es q ≡ Some e) where
    reads_from_to : reads_from alike test (entries_before q es) e ≡ true → (j : ℕ) × (p : ℕ) × ReadsFrom alike es e.cue j p q × (j ≡ e.cue → ⊥) × (test j ≡ true)
    reads_from_to h =
        let seen = entries_before q es in
        let k = reads_item (λ k. found_by (by_other test e) (source alike seen k)) e.act h in
        let r = found_is (by_other test e) (source alike seen k.0) k.2 in
        let parts = and_parts (not (eqb r.0.1.cue e.cue)) (test r.0.1.cue) r.2 in
        (r.0.1.cue, r.0.0, source_reads e.cue q k.0 r.0 (record { act = e.act; entry = here; item = k.1 }) r.1, differs r.0.1.cue e.cue parts.0, parts.1)

    reads_from_back : (j p : ℕ) → ReadsFrom alike es e.cue j p q → (j ≡ e.cue → ⊥) → test j ≡ true → reads_from alike test (entries_before q es) e ≡ true
    reads_from_back j p f other passes =
        let seen = entries_before q es in
        let entry = f.reader.entry in
        let same : e ≡ record { cue = e.cue; act = f.reader.act } = cc in
        item_reads (λ k. found_by (by_other test e) (source alike seen k)) e.act f.item
        (ap (λ (x : Entry K). item_read x.act) same ∙ f.reader.item)
        (ap (found_by (by_other test e)) (reads_source e.cue j p q f) ∙ and_from (not (eqb j e.cue)) (test j) (differs_from j e.cue other) passes)

  abbrev uncommitted : ℕ → ℕ → Bool
  uncommitted q j = not (committed (entries_before q es) j)

  pub cascadeless_to : (q : ℕ) → breaks (breaks_cascadeless alike) es q ≡ true → CascadelessnessBreaks alike es q
  cascadeless_to q h =
      let at = rule_at (breaks_cascadeless alike) es q h in
      let r = reads_from_to (uncommitted q) q at.0 at.1 at.2 in
      record {
        cue = at.0.cue;
        other = r.0;
        place = r.1;
        reads = r.2;
        differ = r.3;
        uncommitted = not_fact (committed (entries_before q es) r.0) (before_committed es q r.0) r.4;
      }

  pub cascadeless_from : (q : ℕ) → CascadelessnessBreaks alike es q → breaks (breaks_cascadeless alike) es q ≡ true
  cascadeless_from q b =
      let e : Entry K = record { cue = b.cue; act = b.reads.reader.act } in
      at_rule (breaks_cascadeless alike) es q e b.reads.reader.entry
      (reads_from_back (uncommitted q) q e b.reads.reader.entry b.other b.place b.reads b.differ (fact_not (committed (entries_before q es) b.other) (committed_before es q b.other) b.uncommitted))

  -- a read by the cue from another, which has not committed before place q
  abbrev owed : ℕ → ℕ → List (Entry K) → Entry K → Bool
  owed q cue before r = eqb r.cue cue && reads_from alike (uncommitted q) before r

  recoverable_to : (q : ℕ) → breaks (breaks_recoverable alike) es q ≡ true → RecoverabilityBreaks alike es q
  recoverable_to q h =
      let seen = entries_before q es in
      let at = rule_at (breaks_recoverable alike) es q h in
      let e = at.0 in
      let parts = and_parts (is_commit e.act) (somewhere (owed q e.cue) [] seen) at.2 in
      let where_read = somewhere_at (owed q e.cue) [] seen parts.1 in
      let read = suc where_read.0 in
      let reads = rule_at (owed q e.cue) seen read where_read.1 in
      let r = reads.0 in
      let there = at_before es q read r reads.1 in
      let whole = ap (λ (before : List (Entry K)). owed q e.cue before r) (before_before es q read (omega (arith, there.0))) in
      let both = and_parts (eqb r.cue e.cue) (reads_from alike (uncommitted q) (entries_before read es) r) (sym whole ∙ reads.2) in
      let same = eqb-true r.cue e.cue both.0 in
      let from = reads_from_to (uncommitted q) read r there.1 both.1 in
      record {
        cue = e.cue;
        other = from.0;
        place = from.1;
        read = read;
        commits = entry_is es q e.cue Commit e at.1 refl (act_commit e.act parts.0);
        earlier = there.0;
        reads = subst (λ (n : ℕ). ReadsFrom alike es n from.0 from.1 read) same from.2;
        differ = λ d. from.3 (d ∙ sym same);
        uncommitted = not_fact (committed seen from.0) (before_committed es q from.0) from.4;
      }

  pub recoverable_from : (q : ℕ) → RecoverabilityBreaks alike es q → breaks (breaks_recoverable alike) es q ≡ true
  recoverable_from q b = at_rule (breaks_recoverable alike) es q (record { cue = b.cue; act = Commit }) b.commits (go b.read b.earlier b.reads)
    where
      go : (read : ℕ) → read < q → ReadsFrom alike es b.cue b.other b.place read → somewhere (owed q b.cue) [] (entries_before q es) ≡ true
      go zero l reads = let z = reads.before in absurd (omega arith)
      go (suc i) l reads =
          let r : Entry K = record { cue = b.cue; act = reads.reader.act } in
          let from = reads_from_back (uncommitted q) (suc i) r reads.reader.entry b.other b.place reads b.differ (fact_not (committed (entries_before q es) b.other) (committed_before es q b.other) b.uncommitted) in
          let test = and_from (eqb b.cue b.cue) (reads_from alike (uncommitted q) (entries_before (suc i) es) r) (eq-eqb b.cue b.cue refl) from in
          let whole = ap (λ (before : List (Entry K)). owed q b.cue before r) (before_before es q (suc i) (omega (arith, l))) in
          passes_somewhere (owed q b.cue) [] (entries_before q es) i
          (at_rule (owed q b.cue) (entries_before q es) (suc i) r (before_at es q (suc i) r l reads.reader.entry) (whole ∙ test))

  -- a write by another cue than e's, which has not ended before place q
  abbrev held : ℕ → Entry K → K → Entry K → Bool
  held q e k w = writes (alike k) w.act && by_other (λ j. not (ended (entries_before q es) j)) e w

  strict_of : (q : ℕ) (e : Entry K) (k : K) → ReadsAt es q e.cue k ⊎ WritesAt es q e.cue k → some (held q e k) (entries_before q es) ≡ true → StrictnessBreaks alike es q
  strict_of q e k here h =
      let seen = entries_before q es in
      let r = some_at (held q e k) seen h in
      let w = r.1 in
      let there = at_before es q (suc r.0) w r.2 in
      let parts = and_parts (writes (alike k) w.act) (by_other (λ j. not (ended seen j)) e w) r.3 in
      let both = and_parts (not (eqb w.cue e.cue)) (not (ended seen w.cue)) parts.1 in
      let item = writes_item (alike k) w.act parts.0 in
      record {
        cue = e.cue;
        other = w.cue;
        place = suc r.0;
        item = k;
        written = item.0;
        here = here;
        there = record { act = w.act; entry = there.1; item = item.1 };
        same = item.2;
        before = there.0;
        differ = differs w.cue e.cue both.0;
        unended = not_fact (ended seen w.cue) (before_ended es q w.cue) both.1;
      }

  pub strict_to : (q : ℕ) → breaks (breaks_strict alike) es q ≡ true → StrictnessBreaks alike es q
  strict_to q h =
      let at = rule_at (breaks_strict alike) es q h in
      let e = at.0 in
      let test = λ (k : K). some (held q e k) (entries_before q es) in
      elim (or_cases (reads test e.act) (writes test e.act) (sym (touches_either test e.act) ∙ at.2)) [
        | inl r ↦ let k = reads_item test e.act r in strict_of q e k.0 (inl (record { act = e.act; entry = at.1; item = k.1 })) k.2
        | inr w ↦ let k = writes_item test e.act w in strict_of q e k.0 (inr (record { act = e.act; entry = at.1; item = k.1 })) k.2
      ]

  strict_from : (q : ℕ) → StrictnessBreaks alike es q → breaks (breaks_strict alike) es q ≡ true
  strict_from q b = go b.here
    where
      found : (e : Entry K) → e.cue ≡ b.cue → some (held q e b.item) (entries_before q es) ≡ true
      found e is = at b.place b.before b.there
        where
          at : (p : ℕ) → p < q → WritesAt es p b.other b.written → some (held q e b.item) (entries_before q es) ≡ true
          at zero l w = let z = w.entry in cc
          at (suc i) l w =
              at_some (held q e b.item) (entries_before q es) i (record { cue = b.other; act = w.act })
              (before_at es q (suc i) (record { cue = b.other; act = w.act }) l w.entry)
              (and_from (writes (alike b.item) w.act) _ (item_writes (alike b.item) w.act b.written w.item b.same)
              (and_from (not (eqb b.other e.cue)) (not (ended (entries_before q es) b.other)) (differs_from b.other e.cue (λ d. b.differ (d ∙ is)))
              (fact_not (ended (entries_before q es) b.other) (ended_before es q b.other) b.unended)))

      go : ReadsAt es q b.cue b.item ⊎ WritesAt es q b.cue b.item → breaks (breaks_strict alike) es q ≡ true
      go (inl r) =
          let e : Entry K = record { cue = b.cue; act = r.act } in
          let test = λ (k : K). some (held q e k) (entries_before q es) in
          at_rule (breaks_strict alike) es q e r.entry
          (touches_either test r.act ∙ or_left (reads test r.act) (writes test r.act) (item_reads test r.act b.item r.item (found e refl)))
      go (inr w) =
          let e : Entry K = record { cue = b.cue; act = w.act } in
          let test = λ (k : K). some (held q e k) (entries_before q es) in
          at_rule (breaks_strict alike) es q e w.entry
          (touches_either test w.act ∙ or_right (reads test w.act) (writes test w.act) (item_writes test w.act b.item w.item (found e refl)))

-- a rule that is told by a test and by a fact
module _ {K : Type 0} (rule : List (Entry K) → Entry K → Bool) (es : List (Entry K)) (Breaks : ℕ → Type 0) (to : (q : ℕ) → breaks rule es q ≡ true → Breaks q) (from : (q : ℕ) → Breaks q → breaks rule es q ≡ true) where
  first_is : (p : ℕ) → first_break rule es ≡ Some p → IsFirstBreak Breaks p
  first_is p h =
      record {
        breaks = to p (found_is_break rule es p h);
        first = λ q b. elim (cases_lt q p) [
          | inl l ↦ absurd (both_ways (breaks rule es q) (none_before rule es p q h l) (from q b))
          | inr l ↦ l
        ];
      }

  never_is : first_break rule es ≡ None → Never Breaks
  never_is h q b = both_ways (breaks rule es q) (no_break rule es q h) (from q b)

module _ {K : Type 0} (alike : K → K → Bool) (es : List (Entry K)) where
  class_is : (r c s : Option ℕ) → first_break (breaks_recoverable alike) es ≡ r → first_break (breaks_cascadeless alike) es ≡ c → first_break (breaks_strict alike) es ≡ s → IsClass alike es (ranked r c s)
  class_is (Some q) c s hr hc hs = first_is (breaks_recoverable alike) es (RecoverabilityBreaks alike es) (recoverable_to alike es) (recoverable_from alike es) q hr
  class_is None (Some q) s hr hc hs = (
    first_is (breaks_cascadeless alike) es (CascadelessnessBreaks alike es) (cascadeless_to alike es) (cascadeless_from alike es) q hc,
    never_is (breaks_recoverable alike) es (RecoverabilityBreaks alike es) (recoverable_to alike es) (recoverable_from alike es) hr,
  )
  class_is None None (Some q) hr hc hs = (
    first_is (breaks_strict alike) es (StrictnessBreaks alike es) (strict_to alike es) (strict_from alike es) q hs,
    never_is (breaks_cascadeless alike) es (CascadelessnessBreaks alike es) (cascadeless_to alike es) (cascadeless_from alike es) hc,
    never_is (breaks_recoverable alike) es (RecoverabilityBreaks alike es) (recoverable_to alike es) (recoverable_from alike es) hr,
  )
  class_is None None None hr hc hs = (
    never_is (breaks_strict alike) es (StrictnessBreaks alike es) (strict_to alike es) (strict_from alike es) hs,
    never_is (breaks_cascadeless alike) es (CascadelessnessBreaks alike es) (cascadeless_to alike es) (cascadeless_from alike es) hc,
    never_is (breaks_recoverable alike) es (RecoverabilityBreaks alike es) (recoverable_to alike es) (recoverable_from alike es) hr,
  )

pub source_is_read_from : (K : Type 0) → SourceIsReadFrom K
source_is_read_from K =
    record {
      found = λ alike es i q k r reader h. source_reads alike es i q k r reader h;
      only = λ alike es i j p q f. reads_source alike es i j p q f;
    }

pub breaks_are_by_places : (K : Type 0) → BreaksAreByPlaces K
breaks_are_by_places K =
    record {
      strict = λ alike es q. (strict_to alike es q, strict_from alike es q);
      cascadeless = λ alike es q. (cascadeless_to alike es q, cascadeless_from alike es q);
      recoverable = λ alike es q. (recoverable_to alike es q, recoverable_from alike es q);
    }

-- an answer that is that class is right
pub class_right : {K : Type 0} (alike : K → K → Bool) (es : List (Entry K)) (c : Class) → c ≡ class_of alike es → IsClass alike es c
class_right alike es c is =
    subst (IsClass alike es) (sym is) (class_is alike es (first_break (breaks_recoverable alike) es) (first_break (breaks_cascadeless alike) es) (first_break (breaks_strict alike) es) refl refl refl)

-- a rule breaks first at one place alone
pub one_first : (Breaks : ℕ → Type 0) (p q : ℕ) → IsFirstBreak Breaks p → IsFirstBreak Breaks q → p ≡ q
one_first Breaks p q h k = let l = h.first q k.breaks in let m = k.first p h.breaks in omega arith

-- and no other class is right
module _ {K : Type 0} (alike : K → K → Bool) (es : List (Entry K)) where
  one_class : (c d : Class) → IsClass alike es c → IsClass alike es d → c ≡ d
  one_class (NotRecoverable p) (NotRecoverable q) h k = ap NotRecoverable (one_first (RecoverabilityBreaks alike es) p q h k)
  one_class (NotRecoverable p) (Recoverable q) h k = absurd (k.1 p h.breaks)
  one_class (NotRecoverable p) (Cascadeless q) h k = absurd (k.2 p h.breaks)
  one_class (NotRecoverable p) Strict h k = absurd (k.2 p h.breaks)
  one_class (Recoverable p) (NotRecoverable q) h k = absurd (h.1 q k.breaks)
  one_class (Recoverable p) (Recoverable q) h k = ap Recoverable (one_first (CascadelessnessBreaks alike es) p q h.0 k.0)
  one_class (Recoverable p) (Cascadeless q) h k = absurd (k.1 p h.0.breaks)
  one_class (Recoverable p) Strict h k = absurd (k.1 p h.0.breaks)
  one_class (Cascadeless p) (NotRecoverable q) h k = absurd (h.2 q k.breaks)
  one_class (Cascadeless p) (Recoverable q) h k = absurd (h.1 q k.0.breaks)
  one_class (Cascadeless p) (Cascadeless q) h k = ap Cascadeless (one_first (StrictnessBreaks alike es) p q h.0 k.0)
  one_class (Cascadeless p) Strict h k = absurd (k.0 p h.0.breaks)
  one_class Strict (NotRecoverable q) h k = absurd (h.2 q k.breaks)
  one_class Strict (Recoverable q) h k = absurd (h.1 q k.0.breaks)
  one_class Strict (Cascadeless q) h k = absurd (h.0 q k.0.breaks)
  one_class Strict Strict h k = refl

pub class_is_by_places : (K : Type 0) → ClassIsByPlaces K
class_is_by_places K alike es c =
    (λ h. one_class alike es c (class_of alike es) h (class_right alike es (class_of alike es) refl), class_right alike es c)
