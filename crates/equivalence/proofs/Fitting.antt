-- The orders that keep the constraints are those in which each cue may come where it stands. Assumes nothing.
use Rattle.std.proofs.Common.{◌≡◌, ℕ, Bool, true, false, cond, not, ◌&&◌, ◌||◌, eqb, ◌⊎◌, List, [], ◌∷◌, ◌++◌, Some, None, Option, sym, refl, ap, ◌∙◌, subst, inl, inr, ⊎_elim, arith}
use Rattle.std.specs.Option.{option_map}
use Rattle.std.proofs.lemmas.Bool.{false≢true, both_ways, cases_eq, cond-true, cond-false, and_from, and_parts, or_cases, not-true, not_from_false, eq-eqb, ne_eqb, eqb-true, eqb-false}
use Rattle.lists.specs.Lists.{some, has, last_where}
use Rattle.lists.proofs.Last.{last_passes}
use Rattle.orders.specs.Orders.{precedes, first_where, orders}
use Rattle.orders.specs.Least.{Stands, Distinct, Rearranges}
use Rattle.orders.proofs.Precedence.{precedes_has, stands_has, rearranged_has, rearranged_distinct}
use Rattle.orders.proofs.Same.{same_first}
use Rattle.history.specs.declared.Act.{Act}
use Rattle.history.specs.declared.Act.TheVariants.{Read, Write, Commit, Abort}
use Rattle.history.specs.declared.Entry.{Entry}
use Rattle.history.specs.Conflicts.{reads, writes}
use Rattle.history.specs.Entries.{committed}
use Rattle.history.specs.Order.{committed_cues}
use Rattle.history.specs.Views.{view_equivalent}
use Rattle.history.proofs.Committed.{same_tests, has_committed}
use Rattle.equivalence.specs.Constraints.{amid, sets, writer, last_writer, read_ahead, read_apart, write_ahead, ahead as aheadAt, apart as apartAt, is_hidden, is_ahead, is_apart, Allows, ViewIsAllowed}
use Rattle.equivalence.specs.Extending.{may_come, fits_after, fits, ViewsByConstraints}
use Rattle.equivalence.proofs.Ordered.{some_of, some_from}
use Rattle.equivalence.proofs.Serial.{has_stands}
use Rattle.equivalence.proofs.Extended.{none_first}

-- an order with its first number
module _ (x : ℕ) (rest : List ℕ) where
  leads : (a b : ℕ) → x ≡ a → Stands b rest → precedes a b (x ∷ rest) ≡ true
  leads a b e s = cond-true (eqb x a) (has b rest) (precedes a b rest) (eq-eqb x a e) ∙ stands_has b rest s

  later : (a b : ℕ) → (x ≡ a → ⊥) → precedes a b (x ∷ rest) ≡ precedes a b rest
  later a b n = cond-false (eqb x a) (has b rest) (precedes a b rest) (ne_eqb x a n)

  first_never : has x rest ≡ false → (a : ℕ) → (x ≡ a → ⊥) → precedes a x (x ∷ rest) ≡ true → ⊥
  first_never d a n h = both_ways (has x rest) d (precedes_has a x rest (sym (later a x n) ∙ h))

  not_first : has x rest ≡ false → (a : ℕ) → Stands a rest → x ≡ a → ⊥
  not_first d a s e = both_ways (has x rest) d (ap (λ (m : ℕ). has m rest) e ∙ stands_has a rest s)

  in_rest : (a : ℕ) → (x ≡ a → ⊥) → Stands a (x ∷ rest) → Stands a rest
  in_rest a n s = ⊎_elim (λ e. absurd (n e)) (λ k. k) s

false_from : (b : Bool) → (b ≡ true → ⊥) → b ≡ false
false_from true h = absurd (h refl)
false_from false h = refl

-- the two rules, said of an order that comes after seen
module _ (ahead : ℕ → ℕ → Bool) (apart : ℕ → ℕ → ℕ → Bool) where
  record Keeps (seen o : List ℕ) : Type 0 where
    pub in_turn : (a b : ℕ) → Stands a o → Stands b o → (a ≡ b → ⊥) → ahead a b ≡ true → precedes a b o ≡ true
    pub since : (j r n : ℕ) → Stands j seen → Stands r o → Stands n o → (r ≡ n → ⊥) → apart j r n ≡ true → precedes r n o ≡ true
    pub outside : (j r n : ℕ) → Stands j o → Stands r o → Stands n o → (n ≡ j → ⊥) → (r ≡ n → ⊥) → apart j r n ≡ true → (precedes n j o ≡ true) ⊎ (precedes r n o ≡ true)

  -- x may come first exactly when the rules, kept by the rest after it, are kept with it
  module _ (seen : List ℕ) (x : ℕ) (rest : List ℕ) where
    keeps_more : may_come ahead apart seen x rest ≡ true → Keeps (x ∷ seen) rest → Keeps seen (x ∷ rest)
    keeps_more m k =
        let p = and_parts (not (some (λ i. ahead i x) rest)) (not (some (λ j. some (λ i. apart j i x) rest) seen)) m in
        let none_ahead_lem : (i : ℕ) → Stands i rest → ahead i x ≡ false = some_of (λ i. ahead i x) rest (not-true (some (λ i. ahead i x) rest) p.0) in
        let none_apart_lem : (j : ℕ) → Stands j seen → (i : ℕ) → Stands i rest → apart j i x ≡ false =
        λ j s. some_of (λ i. apart j i x) rest (some_of (λ j. some (λ i. apart j i x) rest) seen (not-true (some (λ j. some (λ i. apart j i x) rest) seen) p.1) j s) in
        record {
          in_turn = λ a b sa sb ne h. elim (cases_eq x a) [
            | inl e ↦ leads x rest a b e (in_rest x rest b (λ f. ne (sym e ∙ f)) sb)
            | inr na ↦ elim (cases_eq x b) [
              | inl e ↦ absurd (both_ways (ahead a x) (none_ahead_lem a (in_rest x rest a na sa)) (subst (λ (m : ℕ). ahead a m ≡ true) (sym e) h))
              | inr nb ↦ later x rest a b na ∙ k.in_turn a b (in_rest x rest a na sa) (in_rest x rest b nb sb) ne h
            ]
          ];
          since = λ j r n sj sr sn ne h. elim (cases_eq x r) [
            | inl e ↦ leads x rest r n e (in_rest x rest n (λ f. ne (sym e ∙ f)) sn)
            | inr nr ↦ elim (cases_eq x n) [
              | inl e ↦ absurd (both_ways (apart j r x) (none_apart_lem j sj r (in_rest x rest r nr sr)) (subst (λ (m : ℕ). apart j r m ≡ true) (sym e) h))
              | inr nn ↦ later x rest r n nr ∙ k.since j r n (inr sj) (in_rest x rest r nr sr) (in_rest x rest n nn sn) ne h
            ]
          ];
          outside = λ j r n sj sr sn nj ne h. elim (cases_eq x n) [
            | inl e ↦ inl (leads x rest n j e (in_rest x rest j (λ f. nj (sym e ∙ f)) sj))
            | inr nn ↦ elim (cases_eq x r) [
              | inl e ↦ inr (leads x rest r n e (in_rest x rest n nn sn))
              | inr nr ↦ elim (cases_eq x j) [
                | inl e ↦ inr (later x rest r n nr ∙ k.since j r n (inl e) (in_rest x rest r nr sr) (in_rest x rest n nn sn) ne h)
                | inr mj ↦
                    ⊎_elim (λ q. inl (later x rest n j nn ∙ q)) (λ q. inr (later x rest r n nr ∙ q))
                    (k.outside j r n (in_rest x rest j mj sj) (in_rest x rest r nr sr) (in_rest x rest n nn sn) nj ne h)
              ]
            ]
          ];
        }

    module _ (d : has x rest ≡ false) (k : Keeps seen (x ∷ rest)) where
      keeps_may : may_come ahead apart seen x rest ≡ true
      keeps_may =
          and_from (not (some (λ i. ahead i x) rest)) (not (some (λ j. some (λ i. apart j i x) rest) seen))
          (not_from_false (some (λ i. ahead i x) rest)
          (some_from (λ i. ahead i x) rest (λ i s.
          let n = not_first x rest d i s in
          false_from (ahead i x) (λ h. first_never x rest d i n (k.in_turn i x (inr s) (inl refl) (λ e. n (sym e)) h)))))
          (not_from_false (some (λ j. some (λ i. apart j i x) rest) seen)
          (some_from (λ j. some (λ i. apart j i x) rest) seen (λ j sj. some_from (λ i. apart j i x) rest (λ i s.
          let n = not_first x rest d i s in
          false_from (apart j i x) (λ h. first_never x rest d i n (k.since j i x sj (inr s) (inl refl) (λ e. n (sym e)) h))))))

      keeps_rest : Keeps (x ∷ seen) rest
      keeps_rest =
          let away : (a : ℕ) → Stands a rest → x ≡ a → ⊥ = not_first x rest d in
          let back : (a b : ℕ) → Stands a rest → precedes a b (x ∷ rest) ≡ true → precedes a b rest ≡ true = λ a b s h. sym (later x rest a b (away a s)) ∙ h in
          record {
            in_turn = λ a b sa sb ne h. back a b sa (k.in_turn a b (inr sa) (inr sb) ne h);
            since = λ j r n sj sr sn ne h. elim sj [
              | inl e ↦ elim (k.outside j r n (inl e) (inr sr) (inr sn) (λ f. away n sn (e ∙ sym f)) ne h) [
                | inl q ↦ absurd (first_never x rest d n (away n sn) (subst (λ (m : ℕ). precedes n m (x ∷ rest) ≡ true) (sym e) q))
                | inr q ↦ back r n sr q
              ]
              | inr s ↦ back r n sr (k.since j r n s (inr sr) (inr sn) ne h)
            ];
            outside = λ j r n sj sr sn nj ne h. ⊎_elim (λ q. inl (back n j sn q)) (λ q. inr (back r n sr q)) (k.outside j r n (inr sj) (inr sr) (inr sn) nj ne h);
          }

  keeps_fits : (seen o : List ℕ) → Distinct o → Keeps seen o → fits_after ahead apart seen o ≡ true
  keeps_fits seen [] d k = refl
  keeps_fits seen (x ∷ rest) d k =
      and_from (may_come ahead apart seen x rest) (fits_after ahead apart (x ∷ seen) rest)
      (keeps_may seen x rest d.0 k) (keeps_fits (x ∷ seen) rest d.1 (keeps_rest seen x rest d.0 k))

  fits_keeps : (seen o : List ℕ) → fits_after ahead apart seen o ≡ true → Keeps seen o
  fits_keeps seen [] h = record { in_turn = λ a b sa. absurd sa; since = λ j r n sj sr. absurd sr; outside = λ j r n sj. absurd sj }
  fits_keeps seen (x ∷ rest) h =
      let p = and_parts (may_come ahead apart seen x rest) (fits_after ahead apart (x ∷ seen) rest) h in
      keeps_more seen x rest p.0 (fits_keeps (x ∷ seen) rest p.1)

-- what a test that passes tells, where each way of passing tells it
module _ {X : Type 0} (P : Type 0) where
  some_tells : (test : X → Bool) → ((x : X) → test x ≡ true → P) → (xs : List X) → some test xs ≡ true → P
  some_tells test f [] h = absurd (false≢true h)
  some_tells test f (x ∷ xs) h = ⊎_elim (f x) (some_tells test f xs) (or_cases (test x) (some test xs) h)

  amid_tells : (test : List X → X → List X → Bool) → ((b : List X) (x : X) (a : List X) → test b x a ≡ true → P) → (seen xs : List X) → amid test seen xs ≡ true → P
  amid_tells test f seen [] h = absurd (false≢true h)
  amid_tells test f seen (x ∷ xs) h =
      ⊎_elim (f seen x xs) (amid_tells test f (seen ++ x ∷ []) xs) (or_cases (test seen x xs) (amid test (seen ++ x ∷ []) xs) h)

  reads_tells : (test : X → Bool) → ((k : X) → test k ≡ true → P) → (a : Act X) → reads test a ≡ true → P
  reads_tells test f (Read k) h = f k h
  reads_tells test f (Write k) h = absurd (false≢true h)
  reads_tells test f Commit h = absurd (false≢true h)
  reads_tells test f Abort h = absurd (false≢true h)

  writes_tells : (test : X → Bool) → ((k : X) → test k ≡ true → P) → (a : Act X) → writes test a ≡ true → P
  writes_tells test f (Read k) h = absurd (false≢true h)
  writes_tells test f (Write k) h = f k h
  writes_tells test f Commit h = absurd (false≢true h)
  writes_tells test f Abort h = absurd (false≢true h)

mapped_is : {X Y : Type 0} (f : X → Y) (o : Option X) (y : Y) → option_map f o ≡ Some y → (x : X) × (o ≡ Some x) × (f x ≡ y)
mapped_is f None y h = absurd (let z : ◌≡◌ {A = ℕ} 0 1 = cc in omega arith)
mapped_is f (Some x) y h = (x, refl, cc)

-- the constraints are about committed cues
module _ {K : Type 0} (alike : K → K → Bool) (c : ℕ → Bool) where
  writer_counts : (k : K) (ws : List (Entry K)) (n : ℕ) → writer alike c k ws n ≡ true → c n ≡ true
  writer_counts k ws n h =
      some_tells (c n ≡ true) (λ w. eqb w.cue n && sets alike c k w)
      (λ w t.
      let p = and_parts (eqb w.cue n) (sets alike c k w) t in
      let q = and_parts (c w.cue) (writes (alike k) w.act) p.1 in
      sym (ap c (eqb-true w.cue n p.0)) ∙ q.0)
      ws h

  last_counts : (k : K) (ws : List (Entry K)) (j : ℕ) → last_writer alike c k ws ≡ Some j → c j ≡ true
  last_counts k ws j h =
      let m = mapped_is (λ w. w.cue) (last_where (sets alike c k) ws) j h in
      let w = m.0 in
      let q = and_parts (c w.cue) (writes (alike k) w.act) (last_passes (sets alike c k) ws w m.1) in
      sym (ap c m.2) ∙ q.0

  abbrev Two : ℕ → ℕ → Type 0
  Two a b = (c a ≡ true) × (c b ≡ true) × (a ≡ b → ⊥)

  abbrev Three : ℕ → ℕ → ℕ → Type 0
  Three j r n = (c j ≡ true) × (c r ≡ true) × (c n ≡ true) × (n ≡ j → ⊥) × (r ≡ n → ⊥)

  -- a is the one cue and b the other
  two_of : (a b i l : ℕ) → c i ≡ true → c l ≡ true → eqb a i ≡ true → eqb b l ≡ true → (i ≡ l → ⊥) → Two a b
  two_of a b i l ci cl ea eb ne =
      let ia = eqb-true a i ea in
      let lb = eqb-true b l eb in
      (ap c ia ∙ ci, ap c lb ∙ cl, λ e. ne (sym ia ∙ e ∙ lb))

  -- the entry is of cue i, which is committed
  module _ (k : K) (i : ℕ) (own : c i ≡ true) (before after : List (Entry K)) where
    read_ahead_two : (w : Option ℕ) → ((j : ℕ) → w ≡ Some j → c j ≡ true) → (a b : ℕ) → read_ahead alike c k i after w a b ≡ true → Two a b
    read_ahead_two None cw a b h =
        let p = and_parts (eqb a i) (not (eqb b i) && writer alike c k after b) h in
        let q = and_parts (not (eqb b i)) (writer alike c k after b) p.1 in
        two_of a b i b own (writer_counts k after b q.1) p.0 (eq-eqb b b refl) (λ e. eqb-false b i (not-true (eqb b i) q.0) (sym e))
    read_ahead_two (Some j) cw a b h =
        let p = and_parts (eqb a j) (eqb b i && not (eqb j i)) h in
        let q = and_parts (eqb b i) (not (eqb j i)) p.1 in
        two_of a b j i (cw j refl) own p.0 q.0 (eqb-false j i (not-true (eqb j i) q.1))

    write_ahead_two : (w : Option ℕ) → ((j : ℕ) → w ≡ Some j → c j ≡ true) → (a b : ℕ) → write_ahead alike c i w a b ≡ true → Two a b
    write_ahead_two None cw a b h = absurd (false≢true h)
    write_ahead_two (Some l) cw a b h =
        let p = and_parts (eqb a i) (eqb b l && not (eqb l i)) h in
        let q = and_parts (eqb b l) (not (eqb l i)) p.1 in
        two_of a b i l own (cw l refl) p.0 q.0 (λ e. eqb-false l i (not-true (eqb l i) q.1) (sym e))

    read_apart_three : (w : Option ℕ) → ((j : ℕ) → w ≡ Some j → c j ≡ true) → (j r n : ℕ) → read_apart alike c k i before after w j r n ≡ true → Three j r n
    read_apart_three None cw j r n h = absurd (false≢true h)
    read_apart_three (Some s) cw j r n h =
        let p = and_parts (eqb j s && (eqb r i && not (eqb s i))) ((not (eqb n s) && not (eqb n i)) && (writer alike c k before n || writer alike c k after n)) h in
        let u = and_parts (eqb j s) (eqb r i && not (eqb s i)) p.0 in
        let v = and_parts (eqb r i) (not (eqb s i)) u.1 in
        let q = and_parts (not (eqb n s) && not (eqb n i)) (writer alike c k before n || writer alike c k after n) p.1 in
        let z = and_parts (not (eqb n s)) (not (eqb n i)) q.0 in
        let js = eqb-true j s u.0 in
        let ri = eqb-true r i v.0 in (
          ap c js ∙ cw s refl,
          ap c ri ∙ own,
          ⊎_elim (writer_counts k before n) (writer_counts k after n) (or_cases (writer alike c k before n) (writer alike c k after n) q.1),
          λ e. eqb-false n s (not-true (eqb n s) z.0) (e ∙ js),
          λ e. eqb-false n i (not-true (eqb n i) z.1) (sym e ∙ ri),
        )

  ahead_two : (a b : ℕ) (before : List (Entry K)) (e : Entry K) (after : List (Entry K)) → aheadAt alike c a b before e after ≡ true → Two a b
  ahead_two a b before e after h =
      let one = reads (λ k. read_ahead alike c k e.cue after (last_writer alike c k before) a b) e.act in
      let other = writes (λ k. write_ahead alike c e.cue (last_writer alike c k after) a b) e.act in
      let p = and_parts (c e.cue) (one || other) h in
      ⊎_elim
      (reads_tells (Two a b) (λ k. read_ahead alike c k e.cue after (last_writer alike c k before) a b)
      (λ k t. read_ahead_two k e.cue p.0 before after (last_writer alike c k before) (last_counts k before) a b t) e.act)
      (writes_tells (Two a b) (λ k. write_ahead alike c e.cue (last_writer alike c k after) a b)
      (λ k t. write_ahead_two k e.cue p.0 before after (last_writer alike c k after) (last_counts k after) a b t) e.act)
      (or_cases one other p.1)

  apart_three : (j r n : ℕ) (before : List (Entry K)) (e : Entry K) (after : List (Entry K)) → apartAt alike c j r n before e after ≡ true → Three j r n
  apart_three j r n before e after h =
      let p = and_parts (c e.cue) (reads (λ k. read_apart alike c k e.cue before after (last_writer alike c k before) j r n) e.act) h in
      reads_tells (Three j r n) (λ k. read_apart alike c k e.cue before after (last_writer alike c k before) j r n)
      (λ k t. read_apart_three k e.cue p.0 before after (last_writer alike c k before) (last_counts k before) j r n t) e.act p.1

module _ {K : Type 0} (alike : K → K → Bool) (es : List (Entry K)) where
  -- an order of the committed cues
  module _ (o : List ℕ) (re : Rearranges (committed_cues es) o) where
    stands_committed : (m : ℕ) → committed es m ≡ true → Stands m o
    stands_committed m h = has_stands m o (rearranged_has (committed_cues es) o re m ∙ has_committed es m ∙ h)

    allows_fits : Allows alike es o → (not (is_hidden alike es) && fits (is_ahead alike es) (is_apart alike es) o) ≡ true
    allows_fits l =
        and_from (not (is_hidden alike es)) (fits (is_ahead alike es) (is_apart alike es) o)
        (not_from_false (is_hidden alike es) l.shown)
        (keeps_fits (is_ahead alike es) (is_apart alike es) [] o (rearranged_distinct (committed_cues es) o re)
        record {
          in_turn = λ a b sa sb ne h. l.ahead a b h;
          since = λ j r n sj. absurd sj;
          outside = λ j r n sj sr sn nj ne h. l.apart j r n h;
        })

    fits_allows : (not (is_hidden alike es) && fits (is_ahead alike es) (is_apart alike es) o) ≡ true → Allows alike es o
    fits_allows h =
        let p = and_parts (not (is_hidden alike es)) (fits (is_ahead alike es) (is_apart alike es) o) h in
        let k = fits_keeps (is_ahead alike es) (is_apart alike es) [] o p.1 in
        record {
          shown = not-true (is_hidden alike es) p.0;
          ahead = λ a b t.
              let w = amid_tells (Two alike (committed es) a b) (aheadAt alike (committed es) a b) (ahead_two alike (committed es) a b) [] es t in
              k.in_turn a b (stands_committed a w.0) (stands_committed b w.1) w.2 t;
          apart = λ j r n t.
              let w = amid_tells (Three alike (committed es) j r n) (apartAt alike (committed es) j r n) (apart_three alike (committed es) j r n) [] es t in
              k.outside j r n (stands_committed j w.0) (stands_committed r w.1) (stands_committed n w.2) w.3 w.4 t;
        }

hidden_first : {X : Type 0} (hidden : Bool) (p : X → Bool) (os : List X) → first_where (λ o. not hidden && p o) os ≡ cond hidden None (first_where p os)
hidden_first true p os = none_first os
hidden_first false p os = refl

pub views_by_constraints : (K : Type 0) → ViewIsAllowed K → ViewsByConstraints K
views_by_constraints K allowed alike sameness es =
    same_first (committed es) (view_equivalent alike es) (λ o. not (is_hidden alike es) && fits (is_ahead alike es) (is_apart alike es) o)
    (λ o re.
    let v = allowed alike sameness es o re in
    same_tests (view_equivalent alike es o) (not (is_hidden alike es) && fits (is_ahead alike es) (is_apart alike es) o)
    (λ h. allows_fits alike es o re (v.0 h)) (λ h. v.1 (fits_allows alike es o re h)))
    ∙ hidden_first (is_hidden alike es) (fits (is_ahead alike es) (is_apart alike es)) (orders (committed_cues es))
