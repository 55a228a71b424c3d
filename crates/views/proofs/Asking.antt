-- What a read and a write ask, from what the helpers note. Assumes nothing.
use Rattle.std.proofs.Common.{◌≡◌, ℕ, Bool, true, false, not, ◌&&◌, ◌||◌, eqb, List, Some, None, Option, sym, refl, ap, ◌∙◌, subst}
use mathlib.Core.Bool.{and-true, or-false}
use Rattle.std.proofs.lemmas.Bool.{and_right, ne_eqb, not_from_false}
use Rattle.history.specs.declared.Act.{Act}
use Rattle.history.specs.declared.Act.TheVariants.{Read, Write, Commit, Abort}
use Rattle.history.specs.declared.Entry.{Entry}
use Rattle.history.specs.Conflicts.{reads, writes}
use Rattle.history.specs.Marked.{marked}
use Rattle.equivalence.specs.Constraints.{writer, last_writer, read_hides, read_ahead, read_apart, write_ahead, apart}
use Rattle.views.specs.declared.constraints.Constraints.{Constraints}
use Rattle.views.specs.Tables.{ahead_in, apart_in, Asks}
use Rattle.views.specs.Noted.{Notes, Member, Within, none_ahead, none_apart, first, PutsAhead, PutsFirst, split, PutsBetween, ReadBy, AskedRead, AskedWrite}
use Rattle.views.proofs.Noting.{notes_same, notes_two}
use Rattle.views.proofs.Putting.{same_member}
use Rattle.views.proofs.Writing.{writer_in, last_in}

module _ {K : Type 0} (alike : K → K → Bool) (t : Constraints) where
  abbrev pub member : ℕ → Bool
  member = marked t.members.cues

  module _ (k : K) where
    -- a table of the writers of k
    abbrev pub Marks : List (Entry K) → List Bool → Type 0
    Marks ws table = (n : ℕ) → marked table n ≡ writer alike member k ws n

    pub marks_within : (ws : List (Entry K)) (table : List Bool) → Marks ws table → Within table t
    marks_within ws table marks n m = writer_in alike member k ws n (sym (marks n) ∙ m)

    module _ (i : ℕ) (ci : Member t i) where
      module _ (before after : List (Entry K)) (last : Option ℕ) (is_last : last ≡ last_writer alike member k before) where
        pub read_first : (later : List Bool) (t' : Constraints) → Marks after later → PutsFirst t t' i later → last ≡ None → AskedRead alike t t' before i k after (Some tt)
        read_first later t' marks puts e =
            subst (λ (o : Option ℕ). ReadBy alike t t' before i k after o (Some tt)) (sym e ∙ is_last) (
              refl,
              notes_same (first i later) (read_ahead alike member k i after None) none_apart none_apart t t'
                  (λ a b. ap (λ (x : Bool). eqb a i && (not (eqb b i) && x)) (marks b)) (λ j r n. refl)
                  (puts ci (marks_within after later marks)),
            )

        module _ (s : ℕ) (e : last ≡ Some s) where
          -- the source comes before the reader, and has no other writer between them
          module _ (apart : s ≡ i → ⊥) (earlier later : List Bool) (em : Marks before earlier) (lm : Marks after later) where
            other : not (eqb s i) ≡ true
            other = not_from_false (eqb s i) (ne_eqb s i apart)

            with_other : (b : Bool) → b ≡ (b && not (eqb s i))
            with_other b = sym (and-true b) ∙ ap (λ (x : Bool). b && x) (sym other)

            hides_same : (marked earlier i || marked later s) ≡ read_hides alike member k i before after (Some s)
            hides_same = (λ x. em i x || lm s x) ∙ ap (λ (x : Bool). x && (writer alike member k before i || writer alike member k after s)) (sym other)

            ahead_same : (a b : ℕ) → ((eqb a s && eqb b i) || false) ≡ read_ahead alike member k i after (Some s) a b
            ahead_same a b = or-false (eqb a s && eqb b i) ∙ ap (λ (x : Bool). eqb a s && x) (with_other (eqb b i))

            apart_same : (j r n : ℕ) → split s i earlier later j r n ≡ read_apart alike member k i before after (Some s) j r n
            apart_same j r n = λ x. (eqb j s && with_other (eqb r i) x) && ((not (eqb n s) && not (eqb n i)) && (em n x || lm n x))

            pub read_other : (t₁ t₂ : Constraints) → (marked earlier i || marked later s) ≡ false → PutsAhead t t₁ s i → PutsBetween t₁ t₂ s i earlier later → AskedRead alike t t₂ before i k after (Some tt)
            read_other t₁ t₂ h put puts =
                let cs : Member t s = last_in alike member k before s (sym is_last ∙ e) in
                let one = put cs ci in
                let same = same_member t t₁ one.members in
                let two = puts (same s cs) (same i ci) (λ n m. same n (marks_within before earlier em n m)) (λ n m. same n (marks_within after later lm n m)) in
                let both = notes_two (λ a b. eqb a s && eqb b i) none_ahead none_apart (split s i earlier later) t t₁ t₂ one two in
                subst (λ (o : Option ℕ). ReadBy alike t t₂ before i k after o (Some tt)) (sym e ∙ is_last) (
                  sym hides_same ∙ h,
                  notes_same (λ a b. (eqb a s && eqb b i) || false) (read_ahead alike member k i after (Some s)) (split s i earlier later) (read_apart alike member k i before after (Some s)) t t₂
                      ahead_same apart_same both,
                )

      module _ (after : List (Entry K)) (last : Option ℕ) (is_last : last ≡ last_writer alike member k after) where
        abbrev WriteBy : Option ℕ → Constraints → Type 0
        WriteBy o t' = Notes (write_ahead alike member i o) none_apart t t'

        module _ (l : ℕ) (e : last ≡ Some l) where
          pub write_other : (l ≡ i → ⊥) → (t' : Constraints) → PutsAhead t t' i l → AskedWrite alike t t' i k after
          write_other apart t' put =
              let cl : Member t l = last_in alike member k after l (sym is_last ∙ e) in
              let other : not (eqb l i) ≡ true = not_from_false (eqb l i) (ne_eqb l i apart) in
              subst (λ (o : Option ℕ). WriteBy o t') (sym e ∙ is_last)
              (notes_same (λ a b. eqb a i && eqb b l) (write_ahead alike member i (Some l)) none_apart none_apart t t'
              (λ a b. ap (λ (x : Bool). eqb a i && x) (sym (and-true (eqb b l)) ∙ ap (λ (x : Bool). eqb b l && x) (sym other))) (λ j r n. refl) (put ci cl))

module _ {K : Type 0} where
  no_reads : (test : K → Bool) (a : Act K) → ((k : K) → a ≡ Read k → ⊥) → reads test a ≡ false
  no_reads test (Read k) h = absurd (h k refl)
  no_reads test (Write k) h = refl
  no_reads test Commit h = refl
  no_reads test Abort h = refl

  no_writes : (test : K → Bool) (a : Act K) → ((k : K) → a ≡ Write k → ⊥) → writes test a ≡ false
  no_writes test (Read k) h = refl
  no_writes test (Write k) h = absurd (h k refl)
  no_writes test Commit h = refl
  no_writes test Abort h = refl

-- an entry that is no read and no write asks nothing
module _ {K : Type 0} (alike : K → K → Bool) (t : Constraints) (before : List (Entry K)) (e : Entry K) (after : List (Entry K)) where
  pub asks_none : ((k : K) → e.act ≡ Read k → ⊥) → ((k : K) → e.act ≡ Write k → ⊥) → Asks alike t t before e after
  asks_none not-read not-write =
      record {
        members = refl;
        shown = and_right (marked t.members.cues e.cue) _ (no_reads _ e.act not-read);
        ahead = λ a b.
            sym (or-false (ahead_in t a b))
            ∙ ap (λ (x : Bool). ahead_in t a b || x) (sym (and_right (marked t.members.cues e.cue) _ ((λ i. no_reads (λ k. read_ahead alike (marked t.members.cues) k e.cue after (last_writer alike (marked t.members.cues) k before) a b) e.act not-read i || no_writes (λ k. write_ahead alike (marked t.members.cues) e.cue (last_writer alike (marked t.members.cues) k after) a b) e.act not-write i))));
        apart = λ j r n.
            sym (or-false (apart_in t j r n))
            ∙ ap (λ (x : Bool). apart_in t j r n || x) (sym (and_right (marked t.members.cues e.cue) _ (no_reads (λ k. read_apart alike (marked t.members.cues) k e.cue before after (last_writer alike (marked t.members.cues) k before) j r n) e.act not-read)));
      }
