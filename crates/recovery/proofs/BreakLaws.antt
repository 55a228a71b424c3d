-- Laws of breaks. Assumes nothing.
use Rattle.std.proofs.Common.{◌≡◌, ℕ, zero, suc, ◌+◌, ◌-◌, ◌<◌, ◌≤◌, Bool, true, false, not, ◌&&◌, eqb, List, [], ◌∷◌, ◌++◌, length, get_or, take, drop, Some, None, Option, sym, refl, ap, ◌∙◌, subst, inl, inr, arith}
use Rattle.std.proofs.lemmas.List.{length-take, take-append-drop}
use Rattle.std.proofs.lemmas.Bool.{false≢true, both_ways, and_parts, and_from, or_from, cases_Bool, not-true, not_from_false, false_from_ne_true}
use Rattle.lists.specs.Lists.{some, somewhere, first_from, passes, placed}
use Rattle.lists.proofs.FirstFrom.{first_found, first_none, first_nowhere, first_skip, first_none_after}
use Rattle.lists.proofs.Last.{last_passes, last_within}
use Rattle.lists.proofs.Passes.{passes_front, passes_within, passes_at, passes_weaker, somewhere_at, passes_somewhere}
use Rattle.lists.proofs.Some.{some_placed}
use Rattle.history.specs.declared.Act.{Act}
use Rattle.history.specs.declared.Act.TheVariants.{Read, Write, Commit, Abort}
use Rattle.history.specs.declared.Entry.{Entry}
use Rattle.history.specs.Entries.{is_commit, committed, aborted, ended}
use Rattle.history.specs.Conflicts.{reads, writes, touches}
use Rattle.history.proofs.Endings.{ended_either, acted_stays}
use Rattle.recovery.specs.Breaks.{by_other, found_by, breaks, source, reads_from, breaks_recoverable, breaks_cascadeless, breaks_strict}
use Rattle.recovery.specs.Classes.{first_break}
use Rattle.recovery.specs.Laws.{BreaksStay, FirstBreak, BreaksComeTogether}

pub breaks_stay : (K : Type 0) → BreaksStay K
breaks_stay K rule es more zero h = refl
breaks_stay K rule es more (suc i) h = passes_front rule [] es more i (omega arith)

module _ {K : Type 0} where
  pub found_is_break : (rule : List (Entry K) → Entry K → Bool) (es : List (Entry K)) (p : ℕ) → first_break rule es ≡ Some p → breaks rule es p ≡ true
  found_is_break rule es p h =
      let r = first_found rule 1 [] es p h in
      let e : suc r.0 ≡ p = omega (arith, r.1) in
      subst (λ (q : ℕ). breaks rule es q ≡ true) e r.2.0

  pub none_before : (rule : List (Entry K) → Entry K → Bool) (es : List (Entry K)) (p q : ℕ) → first_break rule es ≡ Some p → q < p → breaks rule es q ≡ false
  none_before rule es p zero h l = refl
  none_before rule es p (suc j) h l =
      let r = first_found rule 1 [] es p h in
      r.2.1 j (omega (arith, r.1))

  pub no_break : (rule : List (Entry K) → Entry K → Bool) (es : List (Entry K)) (q : ℕ) → first_break rule es ≡ None → breaks rule es q ≡ false
  no_break rule es zero h = refl
  no_break rule es (suc j) h = first_none rule 1 [] es h j

  pub first_place : (rule : List (Entry K) → Entry K → Bool) (es : List (Entry K)) (p : ℕ) → first_break rule es ≡ Some p → (0 < p) × (p ≤ length es)
  first_place rule es p h =
      let r = first_found rule 1 [] es p h in
      let within = passes_within rule [] es r.0 r.2.0 in
      (omega (arith, r.1), omega (arith, r.1))

pub first_break_lem : (K : Type 0) → FirstBreak K
first_break_lem K = record { found = found_is_break; least = none_before; without = no_break }

module _ {K : Type 0} where
  reads_weaker : (f g : K → Bool) → ((k : K) → f k ≡ true → g k ≡ true) → (a : Act K) → reads f a ≡ true → reads g a ≡ true
  reads_weaker f g h (Read k) r = h k r
  reads_weaker f g h (Write k) r = absurd (false≢true r)
  reads_weaker f g h Commit r = absurd (false≢true r)
  reads_weaker f g h Abort r = absurd (false≢true r)

  reads_touches : (f : K → Bool) (a : Act K) → reads f a ≡ true → touches f a ≡ true
  reads_touches f (Read k) r = r
  reads_touches f (Write k) r = absurd (false≢true r)
  reads_touches f Commit r = absurd (false≢true r)
  reads_touches f Abort r = absurd (false≢true r)

  pub found_is : (test : Entry K → Bool) (o : Option (ℕ × Entry K)) → found_by test o ≡ true → (p : ℕ × Entry K) × (o ≡ Some p) × (test p.1 ≡ true)
  found_is test None h = absurd (false≢true h)
  found_is test (Some p) h = (p, refl, h)

  found_weaker : (f g : Entry K → Bool) → ((w : Entry K) → f w ≡ true → g w ≡ true) → (o : Option (ℕ × Entry K)) → found_by f o ≡ true → found_by g o ≡ true
  found_weaker f g h None r = absurd (false≢true r)
  found_weaker f g h (Some p) r = h p.1 r

  other_weaker : (f g : ℕ → Bool) (e w : Entry K) → (f w.cue ≡ true → g w.cue ≡ true) → by_other f e w ≡ true → by_other g e w ≡ true
  other_weaker f g e w h r =
      let p = and_parts (not (eqb w.cue e.cue)) (f w.cue) r in
      and_from (not (eqb w.cue e.cue)) (g w.cue) p.0 (h p.1)

  -- a cue that has neither committed nor aborted has not ended
  not_ended : (seen : List (Entry K)) (j : ℕ) → not (committed seen j) ≡ true → not (aborted seen j) ≡ true → not (ended seen j) ≡ true
  not_ended seen j c a =
      not_from_false (ended seen j) (ended_either seen j ∙ or_from (committed seen j) (aborted seen j) (not-true (committed seen j) c) (not-true (aborted seen j) a))

  -- a cue that has not committed had not earlier
  not_earlier : (seen more : List (Entry K)) (j : ℕ) → not (committed (seen ++ more) j) ≡ true → not (committed seen j) ≡ true
  not_earlier seen more j h =
      elim (cases_Bool (committed seen j)) [
        | inl did ↦ absurd (both_ways (committed (seen ++ more) j) (not-true (committed (seen ++ more) j) h) (acted_stays is_commit seen more j did))
        | inr didnt ↦ not_from_false (committed seen j) didnt
      ]

  -- some entry, for get_or where it is not past the end
  pub default : (es : List (Entry K)) (i : ℕ) → i < length es → Entry K
  default [] i h = absurd (omega arith)
  default (e ∷ es) i h = e

module _ {K : Type 0} (alike : K → K → Bool) where
  reads_from_weaker : (f g : ℕ → Bool) → ((j : ℕ) → f j ≡ true → g j ≡ true) → (seen : List (Entry K)) (e : Entry K) → reads_from alike f seen e ≡ true → reads_from alike g seen e ≡ true
  reads_from_weaker f g h seen e r =
      reads_weaker (λ k. found_by (by_other f e) (source alike seen k)) (λ k. found_by (by_other g e) (source alike seen k))
      (λ k. found_weaker (by_other f e) (by_other g e) (λ w. other_weaker f g e w (h w.cue)) (source alike seen k))
      e.act r

  -- the write that a read reads from is of a cue that has not ended
  from_open : (seen : List (Entry K)) (e : Entry K) (k : K) → found_by (by_other (λ j. not (committed seen j)) e) (source alike seen k) ≡ true → some (λ w. writes (alike k) w.act && by_other (λ j. not (ended seen j)) e w) seen ≡ true
  from_open seen e k h =
      let r = found_is (by_other (λ j. not (committed seen j)) e) (source alike seen k) h in
      let w = r.0.1 in
      let counted = λ (p : ℕ × Entry K). writes (alike k) p.1.act && not (aborted seen p.1.cue) in
      let written = λ (x : Entry K). writes (alike k) x.act && by_other (λ j. not (ended seen j)) e x in
      let parts = and_parts (writes (alike k) w.act) (not (aborted seen w.cue)) (last_passes counted (placed 1 seen) r.0 r.1) in
      let other = other_weaker (λ j. not (committed seen j)) (λ j. not (ended seen j)) e w (λ c. not_ended seen w.cue c parts.1) r.2 in
      sym (some_placed written 1 seen)
      ∙ last_within counted (λ p. written p.1) (placed 1 seen) r.0 r.1 (and_from (writes (alike k) w.act) (by_other (λ j. not (ended seen j)) e w) parts.0 other)

  pub cascadeless_strict : (seen : List (Entry K)) (e : Entry K) → breaks_cascadeless alike seen e ≡ true → breaks_strict alike seen e ≡ true
  cascadeless_strict seen e h =
      let written = λ (k : K). some (λ (w : Entry K). writes (alike k) w.act && by_other (λ j. not (ended seen j)) e w) seen in
      reads_touches written e.act
      (reads_weaker (λ k. found_by (by_other (λ j. not (committed seen j)) e) (source alike seen k)) written (from_open seen e) e.act h)

  pub recoverable_cascadeless : (seen : List (Entry K)) (e : Entry K) → breaks_recoverable alike seen e ≡ true → somewhere (breaks_cascadeless alike) [] seen ≡ true
  recoverable_cascadeless seen e h =
      let uncommitted = λ (j : ℕ). not (committed seen j) in
      let test = λ (before : List (Entry K)) (r : Entry K). eqb r.cue e.cue && reads_from alike uncommitted before r in
      let at = somewhere_at test [] seen (and_parts (is_commit e.act) (somewhere test [] seen) h).1 in
      let i = at.0 in
      let within = passes_within test [] seen i at.1 in
      let before = take i seen in
      let r = get_or seen i e in
      let read = (and_parts (eqb r.cue e.cue) (reads_from alike uncommitted before r) (sym (passes_at test [] seen i e within) ∙ at.1)).1 in
      let earlier = λ (j : ℕ) (c : uncommitted j ≡ true). not_earlier before (drop i seen) j (subst (λ (es : List (Entry K)). not (committed es j) ≡ true) (sym (take-append-drop i seen)) c) in
      passes_somewhere (breaks_cascadeless alike) [] seen i
      (passes_at (breaks_cascadeless alike) [] seen i e within ∙ reads_from_weaker uncommitted (λ j. not (committed before j)) earlier before r read)

  -- without a break of cascadelessness there is none of recoverability, here from the entries seen on
  pub cascadeless_recoverable_from : (p : ℕ) (seen rest : List (Entry K)) → somewhere (breaks_cascadeless alike) [] seen ≡ false → first_from (breaks_cascadeless alike) p seen rest ≡ None → first_from (breaks_recoverable alike) p seen rest ≡ None
  cascadeless_recoverable_from p seen rest h k =
      first_none_after (breaks_cascadeless alike) (breaks_recoverable alike) recoverable_cascadeless p seen rest h k

  pub cascadeless_recoverable : (es : List (Entry K)) → first_break (breaks_cascadeless alike) es ≡ None → first_break (breaks_recoverable alike) es ≡ None
  cascadeless_recoverable es h = cascadeless_recoverable_from 1 [] es refl h

  earlier_break : (es : List (Entry K)) (q : ℕ) → breaks (breaks_recoverable alike) es q ≡ true → (p : ℕ) × (p < q) × (breaks (breaks_cascadeless alike) es p ≡ true)
  earlier_break es zero h = absurd (false≢true h)
  earlier_break es (suc i) h =
      let within = passes_within (breaks_recoverable alike) [] es i h in
      let d = default es i within in
      let here = sym (passes_at (breaks_recoverable alike) [] es i d within) ∙ h in
      let at = somewhere_at (breaks_cascadeless alike) [] (take i es) (recoverable_cascadeless (take i es) (get_or es i d) here) in
      let j = at.0 in
      let before = passes_within (breaks_cascadeless alike) [] (take i es) j at.1 in
      let same = passes_front (breaks_cascadeless alike) [] (take i es) (drop i es) j before in
      let whole = ap (λ (front : List (Entry K)). passes (breaks_cascadeless alike) [] front j) (take-append-drop i es) in
      (suc j, omega (arith, length-take i es), sym whole ∙ same ∙ at.1)

  same_break : (es : List (Entry K)) (q : ℕ) → breaks (breaks_cascadeless alike) es q ≡ true → breaks (breaks_strict alike) es q ≡ true
  same_break es zero h = absurd (false≢true h)
  same_break es (suc i) h = passes_weaker (breaks_cascadeless alike) (breaks_strict alike) cascadeless_strict [] es i h

  -- a search for breaks of cascadelessness may begin at the first break of strictness
  pub cascadeless_from_strict : (es : List (Entry K)) (p : ℕ) → first_break (breaks_strict alike) es ≡ Some p → first_from (breaks_cascadeless alike) (p - 1 + 1) (take (p - 1) es) (drop (p - 1) es) ≡ first_break (breaks_cascadeless alike) es
  cascadeless_from_strict es p h =
      first_skip (breaks_cascadeless alike) 1 [] es (p - 1)
      (λ j l. false_from_ne_true (passes (breaks_cascadeless alike) [] es j) (λ t. both_ways (breaks (breaks_strict alike) es (suc j)) (none_before (breaks_strict alike) es p (suc j) h (omega arith)) (same_break es (suc j) t)))

  -- and one for breaks of recoverability at the first break of cascadelessness
  pub recoverable_from_cascadeless : (es : List (Entry K)) (p : ℕ) → first_break (breaks_cascadeless alike) es ≡ Some p → first_from (breaks_recoverable alike) (p - 1 + 1) (take (p - 1) es) (drop (p - 1) es) ≡ first_break (breaks_recoverable alike) es
  recoverable_from_cascadeless es p h =
      first_skip (breaks_recoverable alike) 1 [] es (p - 1)
      (λ j l. false_from_ne_true (passes (breaks_recoverable alike) [] es j) (λ t. let r = earlier_break es (suc j) t in both_ways (breaks (breaks_cascadeless alike) es r.0) (none_before (breaks_cascadeless alike) es p r.0 h (omega (arith, r.1))) r.2))

  pub strict_cascadeless : (es : List (Entry K)) → first_break (breaks_strict alike) es ≡ None → first_break (breaks_cascadeless alike) es ≡ None
  strict_cascadeless es h =
      first_nowhere (breaks_cascadeless alike) 1 [] es
      (λ i. false_from_ne_true (passes (breaks_cascadeless alike) [] es i) (λ t. both_ways (breaks (breaks_strict alike) es (suc i)) (no_break (breaks_strict alike) es (suc i) h) (same_break es (suc i) t)))

pub breaks_come_together : (K : Type 0) → BreaksComeTogether K
breaks_come_together K = record { cascadeless = earlier_break; strict = same_break }
