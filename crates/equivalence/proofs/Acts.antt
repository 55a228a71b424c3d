-- Acts that read, write or touch an item. Assumes nothing.
use Rattle.std.proofs.Common.{◌≡◌, Bool, true, not, sym, refl, ap, subst}
use Rattle.std.proofs.lemmas.Bool.{false≢true, not-true, not-false}
use Rattle.history.specs.declared.Act.{Act}
use Rattle.history.specs.declared.Act.TheVariants.{Read, Write, Commit, Abort}
use Rattle.history.specs.Conflicts.{reads, writes, touches}
use Rattle.equivalence.specs.Laws.{Sameness}

module _ {K : Type 0} where
  pub reads_of : (test : K → Bool) (a : Act K) → reads test a ≡ true → (k : K) × (a ≡ Read k) × (test k ≡ true)
  reads_of test (Read k) h = (k, refl, h)
  reads_of test (Write k) h = absurd (false≢true h)
  reads_of test Commit h = absurd (false≢true h)
  reads_of test Abort h = absurd (false≢true h)

  pub reads_from_lem : (test : K → Bool) (a : Act K) (k : K) → a ≡ Read k → test k ≡ true → reads test a ≡ true
  reads_from_lem test a k e h = subst (λ (z : Act K). reads test z ≡ true) (sym e) h

  pub writes_of : (test : K → Bool) (a : Act K) → writes test a ≡ true → (k : K) × (a ≡ Write k) × (test k ≡ true)
  writes_of test (Read k) h = absurd (false≢true h)
  writes_of test (Write k) h = (k, refl, h)
  writes_of test Commit h = absurd (false≢true h)
  writes_of test Abort h = absurd (false≢true h)

  pub writes_from : (test : K → Bool) (a : Act K) (k : K) → a ≡ Write k → test k ≡ true → writes test a ≡ true
  writes_from test a k e h = subst (λ (z : Act K). writes test z ≡ true) (sym e) h

  pub writes_touch : (test : K → Bool) (a : Act K) → writes test a ≡ true → touches (λ k. true) a ≡ true
  writes_touch test (Read k) h = refl
  writes_touch test (Write k) h = refl
  writes_touch test Commit h = h
  writes_touch test Abort h = h

  pub read_touches : (a : Act K) (k : K) → a ≡ Read k → touches (λ k. true) a ≡ true
  read_touches a k e = subst (λ (z : Act K). touches (λ k. true) z ≡ true) (sym e) refl

  -- no read or write fails
  pub reads_kept : (test : K → Bool) (a : Act K) → ((k : K) → a ≡ Read k → test k ≡ true) → not (reads (λ k. not (test k)) a) ≡ true
  reads_kept test (Read k) h = ap (λ (b : Bool). not (not b)) (h k refl)
  reads_kept test (Write k) h = refl
  reads_kept test Commit h = refl
  reads_kept test Abort h = refl

  pub touches_kept : (test : K → Bool) (a : Act K) → ((k : K) → test k ≡ true) → not (touches (λ k. not (test k)) a) ≡ true
  touches_kept test (Read k) h = ap (λ (b : Bool). not (not b)) (h k)
  touches_kept test (Write k) h = ap (λ (b : Bool). not (not b)) (h k)
  touches_kept test Commit h = refl
  touches_kept test Abort h = refl

  pub kept_read : (test : K → Bool) (a : Act K) (k : K) → not (reads (λ k. not (test k)) a) ≡ true → a ≡ Read k → test k ≡ true
  kept_read test a k h e = not-false (test k) (not-true (not (test k)) (subst (λ (z : Act K). not (reads (λ k. not (test k)) z) ≡ true) e h))

  pub kept_write : (test : K → Bool) (a : Act K) (k : K) → not (touches (λ k. not (test k)) a) ≡ true → a ≡ Write k → test k ≡ true
  kept_write test a k h e = not-false (test k) (not-true (not (test k)) (subst (λ (z : Act K). not (touches (λ k. not (test k)) z) ≡ true) e h))

-- an act that writes an item writes the same items
pub writes_same : {K : Type 0} (alike : K → K → Bool) → Sameness alike → (k l : K) → alike k l ≡ true → (a : Act K) → writes (alike k) a ≡ true → writes (alike l) a ≡ true
writes_same alike same k l e (Read z) h = h
writes_same alike same k l e (Write z) h = same.transitive l k z (same.symmetric k l e) h
writes_same alike same k l e Commit h = h
writes_same alike same k l e Abort h = h
