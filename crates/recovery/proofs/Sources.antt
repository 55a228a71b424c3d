-- A read reads from one write, a cue its own; and a serial history is strict.
use Rattle.std.proofs.Common.{◌≡◌, ℕ, zero, suc, ◌<◌, ◌≤◌, Bool, true, cond, not, ◌&&◌, List, [], ◌∷◌, Some, None, Option, sym, refl, ap, ◌∙◌, inl, inr, arith}
use Rattle.std.proofs.lemmas.Bool.{false≢true, and_from, cases_lt, or_cases}
use Rattle.lists.specs.Lists.{some, or_else, last_where, placed}
use Rattle.lists.proofs.Places.{at_some}
use Rattle.lists.proofs.Some.{some_placed}
use Rattle.history.specs.declared.Entry.{Entry}
use Rattle.history.specs.Entries.{aborted}
use Rattle.history.specs.Conflicts.{writes}
use Rattle.history.specs.Places.{entries_before, EntryIs, item_read, ReadsAt, WritesAt, AbortedBefore}
use Rattle.history.proofs.Places.{before_at, aborted_before, fact_not, item_writes}
use Rattle.recovery.specs.declared.Class.{Class}
use Rattle.recovery.specs.declared.Class.TheVariants.{NotRecoverable, Recoverable, Cascadeless, Strict}
use Rattle.recovery.specs.Breaks.{source}
use Rattle.recovery.specs.Classes.{class_number, class_of}
use Rattle.recovery.specs.ReadsFrom.{ReadsFrom, StrictnessBreaks, CascadelessnessBreaks}
use Rattle.recovery.specs.Laws.{OneByOne, ReadHasOneSource, OwnWriteIsRead, SerialIsStrict}
use Rattle.recovery.proofs.ByPlaces.{source_is_read_from}
use Rattle.recovery.proofs.Numbers.{class_is_numbered}

module _ {X : Type 0} where
  either : (o : Option X) (x : X) → (r : X) × (or_else o (Some x) ≡ Some r)
  either None x = (x, refl)
  either (Some y) x = (y, refl)

  -- where some pass there is a last
  last_some : (test : X → Bool) (xs : List X) → some test xs ≡ true → (r : X) × (last_where test xs ≡ Some r)
  last_some test [] h = absurd (false≢true h)
  last_some test (x ∷ xs) h =
      elim (or_cases (test x) (some test xs) h) [
        | inl here ↦
            let r = either (last_where test xs) x in
            (r.0, ap (λ (t : Bool). or_else (last_where test xs) (cond t (Some x) None)) here ∙ r.1)
        | inr later ↦
            let r = last_some test xs later in
            (r.0, ap (λ (o : Option X). or_else o (cond (test x) (Some x) None)) r.1)
      ]

module _ {K : Type 0} (es : List (Entry K)) where
  -- at one place one cue reads one item
  one_read : (q i m : ℕ) (k l : K) → ReadsAt es q i k → ReadsAt es q m l → (i ≡ m) × (k ≡ l)
  one_read q i m k l a b =
      let e : ◌≡◌ {A = Entry K} (record { cue = i; act = a.act }) (record { cue = m; act = b.act }) = let x = a.entry in let y = b.entry in cc in
      let read : Some k ≡ Some l = sym a.item ∙ ap (λ (x : Entry K). item_read x.act) e ∙ b.item in
      (ap (λ (x : Entry K). x.cue) e, cc)

  module _ (alike : K → K → Bool) where
    one_source : (i j m n p q r : ℕ) → ReadsFrom alike es i j p q → ReadsFrom alike es m n r q → (i ≡ m) × (j ≡ n) × (p ≡ r)
    one_source i j m n p q r f g =
        let same = one_read q i m f.item g.item f.reader g.reader in
        let x = (source_is_read_from K).only alike es i j p q f in
        let y = (source_is_read_from K).only alike es m n r q g in
        let both : ◌≡◌ {A = Option (ℕ × Entry K)} (Some (p, record { cue = j; act = f.writer.act })) (Some (r, record { cue = n; act = g.writer.act })) =
        sym x ∙ ap (source alike (entries_before q es)) same.1 ∙ y in
        let pair : ◌≡◌ {A = ℕ × Entry K} (p, record { cue = j; act = f.writer.act }) (r, record { cue = n; act = g.writer.act }) = cc in
        (same.0, ap (λ (x : ℕ × Entry K). x.1.cue) pair, ap (λ (x : ℕ × Entry K). x.0) pair)

    -- a write that stands before a read is counted
    counted_some : (n p q : ℕ) (k w : K) → WritesAt es p n w → alike k w ≡ true → p < q → (AbortedBefore es q n → ⊥) → some (λ x. writes (alike k) x.act && not (aborted (entries_before q es) x.cue)) (entries_before q es) ≡ true
    counted_some n zero q k w writer same before stands = let z = writer.entry in cc
    counted_some n (suc i) q k w writer same before stands =
        let seen = entries_before q es in
        let e : Entry K = record { cue = n; act = writer.act } in
        at_some (λ x. writes (alike k) x.act && not (aborted seen x.cue)) seen i e
        (before_at es q (suc i) e before writer.entry)
        (and_from (writes (alike k) e.act) (not (aborted seen n)) (item_writes (alike k) e.act w writer.item same) (fact_not (aborted seen n) (aborted_before es q n) stands))

    some_source : (i n p q : ℕ) (k w : K) → ReadsAt es q i k → WritesAt es p n w → alike k w ≡ true → p < q → (AbortedBefore es q n → ⊥) → (j : ℕ) × (r : ℕ) × (p ≤ r) × ReadsFrom alike es i j r q
    some_source i n p q k w reader writer same before stands =
        let seen = entries_before q es in
        let test = λ (x : Entry K). writes (alike k) x.act && not (aborted seen x.cue) in
        let last = last_some (λ p. test p.1) (placed 1 seen) (some_placed test 1 seen ∙ counted_some n p q k w writer same before stands) in
        let r = last.0 in
        let f = (source_is_read_from K).found alike es i q k r reader last.1 in
        let item = (one_read q i i k f.item reader f.reader).1 in
        (r.1.cue, r.0, elim (cases_lt r.0 p) [ inl l ↦ absurd (stands (f.last p n w l before writer (ap (λ (x : K). alike x w) (sym item) ∙ same))) | inr l ↦ l ], f)

    unbroken : (i p q : ℕ) → ReadsFrom alike es i i p q → CascadelessnessBreaks alike es q → ⊥
    unbroken i p q f b =
        let same = one_source i i b.cue b.other p q b.place f b.reads in
        b.differ (sym same.1 ∙ same.0)

    serial_never : OneByOne es → (q : ℕ) → StrictnessBreaks alike es q → ⊥
    serial_never one q b = elim b.here [ inl r ↦ at r.act r.entry | inr w ↦ at w.act w.entry ]
      where
        at : (a : _) → EntryIs es q b.cue a → ⊥
        at a h = b.unended (one b.place q b.other b.cue b.there.act a b.there.entry h b.before b.differ)

-- the strict class by its number
number_strict : (c : Class) → class_number c ≡ 3 → c ≡ Strict
number_strict (NotRecoverable p) h = absurd (omega (arith, h))
number_strict (Recoverable p) h = absurd (omega (arith, h))
number_strict (Cascadeless p) h = absurd (omega (arith, h))
number_strict Strict h = refl

pub read_has_one_source : (K : Type 0) → ReadHasOneSource K
read_has_one_source K =
    record {
      one = λ alike es i j m n p q r. one_source es alike i j m n p q r;
      any = λ alike es i n p q k w. some_source es alike i n p q k w;
    }

pub own_write_is_read : (K : Type 0) → OwnWriteIsRead K
own_write_is_read K =
    record {
      own = λ alike es i p q k w reader writer same before stands last.
          record {
            item = k;
            written = w;
            reader = reader;
            writer = writer;
            same = same;
            before = before;
            stands = stands;
            last = last;
          };
      unbroken = λ alike es i p q. unbroken es alike i p q;
    }

pub serial_is_strict : (K : Type 0) → SerialIsStrict K
serial_is_strict K alike es one =
    number_strict (class_of alike es) ((class_is_numbered K alike es).strict.1 (serial_never es alike one))
