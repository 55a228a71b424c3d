-- The acts at which the rules of recovery break.
use Rattle.std.proofs.Common.{◌≡◌, ℕ, ◌<◌, Bool, List, Some, sym, refl, ap, subst, inl, inr, arith}
use Rattle.std.specs.Prelude.{◌≢◌, ◌⊎◌}
use Rattle.std.proofs.lemmas.Bool.{cases_lt}
use Rattle.history.specs.declared.Act.{Act}
use Rattle.history.specs.declared.Act.TheVariants.{Read, Write, Commit, Abort}
use Rattle.history.specs.declared.Entry.{Entry}
use Rattle.history.specs.Places.{EntryIs, item_read, item_written, ReadsAt, WritesAt, DidBefore}
use Rattle.history.specs.Places.{EndedBefore}
use Rattle.recovery.specs.Laws.{OnlyAfter, BreaksAreAtTheirActs}

module _ {K : Type 0} where
  read_is : (a : Act K) (k : K) → item_read a ≡ Some k → a ≡ Read k
  read_is (Read i) k h = let e : i ≡ k = cc in ap Read e
  read_is (Write i) k h = cc
  read_is Commit k h = cc
  read_is Abort k h = cc

  write_is : (a : Act K) (k : K) → item_written a ≡ Some k → a ≡ Write k
  write_is (Read i) k h = cc
  write_is (Write i) k h = let e : i ≡ k = cc in ap Write e
  write_is Commit k h = cc
  write_is Abort k h = cc

  module _ (es : List (Entry K)) (q n : ℕ) where
    read_at : (k : K) → ReadsAt es q n k → EntryIs es q n (Read k)
    read_at k r = subst (EntryIs es q n) (read_is r.act k r.item) r.entry

    write_at : (k : K) → WritesAt es q n k → EntryIs es q n (Write k)
    write_at k w = subst (EntryIs es q n) (write_is w.act k w.item) w.entry

    reads_at : (k : K) → EntryIs es q n (Read k) → ReadsAt es q n k
    reads_at k e = record { act = Read k; entry = e; item = refl }

    writes_at : (k : K) → EntryIs es q n (Write k) → WritesAt es q n k
    writes_at k e = record { act = Write k; entry = e; item = refl }

    not_before : (a : Act K) → OnlyAfter es q n a → DidBefore es q n a → ⊥
    not_before a after d =
        let less : d.place < q = d.before in
        let more : q < d.place = after d.cue d.place d.entry in
        omega (arith, less, more)

    -- an entry at q that is another than an act a of cue n leaves only places after q
    only_after :
        (a b : Act K) (m : ℕ) → EntryIs es q m b → ((n ≡ m) → (a ≡ b) → ⊥) →
        (DidBefore es q n a → ⊥) → OnlyAfter es q n a
    only_after a b m here other never cue s e =
        elim (cases_lt s q) [
          | inl l ↦ absurd (never (record { cue = cue; place = s; before = l; entry = e }))
          | inr l ↦
              elim (cases_lt q s) [
                | inl l' ↦ l'
                | inr l' ↦
                    let this : Entry K = record { cue = n; act = a } in
                    let that : Entry K = record { cue = m; act = b } in
                    let at : s ≡ q = omega (arith, l, l') in
                    let there : EntryIs es q n a = subst (λ (p : ℕ). EntryIs es p n a) at e in
                    let both : this ≡ that = cc in
                    absurd (other (ap (λ (x : Entry K). x.cue) both)
                    (ap (λ (x : Entry K). x.act) both))
              ]
        ]

    not_ended : OnlyAfter es q n Commit → OnlyAfter es q n Abort → EndedBefore es q n → ⊥
    not_ended c a (inl d) = not_before Commit c d
    not_ended c a (inr d) = not_before Abort a d

  here_is :
      (es : List (Entry K)) (q n : ℕ) (k : K) → ReadsAt es q n k ⊎ WritesAt es q n k →
      EntryIs es q n (Read k) ⊎ EntryIs es q n (Write k)
  here_is es q n k (inl r) = inl (read_at es q n k r)
  here_is es q n k (inr w) = inr (write_at es q n k w)

  is_here :
      (es : List (Entry K)) (q n : ℕ) (k : K) →
      EntryIs es q n (Read k) ⊎ EntryIs es q n (Write k) → ReadsAt es q n k ⊎ WritesAt es q n k
  is_here es q n k (inl e) = inl (reads_at es q n k e)
  is_here es q n k (inr e) = inr (writes_at es q n k e)

module _ {K : Type 0} (alike : K → K → Bool) (es : List (Entry K)) (q : ℕ) where
  ends_no_access :
      (i n : ℕ) (k : K) (a : Act K) → (Read k ≢ a) → (Write k ≢ a) →
      EntryIs es q i (Read k) ⊎ EntryIs es q i (Write k) →
      (DidBefore es q n a → ⊥) → OnlyAfter es q n a
  ends_no_access i n k a x y (inl e) never =
      only_after es q n a (Read k) i e (λ c d. x (sym d)) never
  ends_no_access i n k a x y (inr e) never =
      only_after es q n a (Write k) i e (λ c d. y (sym d)) never

pub breaks_are_at_their_acts : (K : Type 0) → BreaksAreAtTheirActs K
breaks_are_at_their_acts K =
    record {
      recoverable = λ alike es q. (
        λ b. (
          b.cue,
          b.other,
          b.place,
          b.read,
          b.commits,
          b.reads,
          b.earlier,
          b.differ,
          only_after es q b.other Commit Commit b.cue b.commits (λ c d. b.differ c)
              b.uncommitted,
        ),
        λ b.
            record {
              cue = b.0;
              other = b.1;
              place = b.2;
              read = b.3;
              commits = b.4;
              reads = b.5;
              earlier = b.6;
              differ = b.7;
              uncommitted = not_before es q b.1 Commit b.8;
            },
      );
      cascadeless = λ alike es q. (
        λ b.
            let f = b.reads in
            let here = read_at es q b.cue f.item f.reader in (
              b.cue,
              b.other,
              b.place,
              f.item,
              here,
              f,
              b.differ,
              only_after es q b.other Commit (Read f.item) b.cue here (λ c d. cc) b.uncommitted,
            ),
        λ b.
            record {
              cue = b.0;
              other = b.1;
              place = b.2;
              reads = b.5;
              differ = b.6;
              uncommitted = not_before es q b.1 Commit b.7;
            },
      );
      strict = λ alike es q. (
        λ b.
            let here = here_is es q b.cue b.item b.here in (
              b.cue,
              b.other,
              b.place,
              b.item,
              b.written,
              here,
              write_at es b.place b.other b.written b.there,
              b.same,
              b.before,
              b.differ,
              ends_no_access alike es q b.cue b.other b.item Commit (λ d. cc) (λ d. cc) here
                  (λ d. b.unended (inl d)),
              ends_no_access alike es q b.cue b.other b.item Abort (λ d. cc) (λ d. cc) here
                  (λ d. b.unended (inr d)),
            ),
        λ b.
            record {
              cue = b.0;
              other = b.1;
              place = b.2;
              item = b.3;
              written = b.4;
              here = is_here es q b.0 b.3 b.5;
              there = writes_at es b.2 b.1 b.4 b.6;
              same = b.7;
              before = b.8;
              differ = b.9;
              unended = not_ended es q b.1 b.10 b.11;
            },
      );
    }
