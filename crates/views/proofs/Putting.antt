-- The loops that note what a read asks of the other writers. Assumes nothing.
use Rattle.std.proofs.Common.{◌≡◌, ℕ, ◌+◌, ◌<◌, ◌≤◌, Bool, true, false, not, ◌&&◌, ◌||◌, eqb, ltb, List, sym, refl, subst, inl, inr, arith}
use Rattle.std.proofs.lemmas.Bool.{and_parts, and_right, or_cases}
use Rattle.history.specs.Marked.{marked}
use Rattle.history.proofs.Committed.{cue_high}
use Rattle.history.proofs.Marks.{marked_cue}
use Rattle.views.specs.declared.constraints.Constraints.{Constraints}
use Rattle.views.specs.declared.members.Members.{Members}
use Rattle.views.specs.Noted.{Notes, Member, Within, none_ahead, none_apart, other, first, PutsAhead, PutsApart, PutsFirst, PutsBetween, third, split}
use Rattle.views.proofs.Noting.{notes_none, notes_same, notes_two, upto_none, upto_more, upto_past, upto_all}

marked_low : (table : List Bool) (n : ℕ) → marked table n ≡ true → n < 65
marked_low table n m = omega (arith, cue_high n (marked_cue table n m))

-- a member of the same members
pub same_member : (t t' : Constraints) → t'.members ≡ t.members → (n : ℕ) → Member t n → Member t' n
same_member t t' e n m = subst (λ (ms : Members). marked ms.cues n ≡ true) (sym e) m

-- another writer is a member, where the writers are
pub other_in : (reader : ℕ) (writers : List Bool) (n : ℕ) (t : Constraints) → Within writers t → other reader writers n ≡ true → Member t n
other_in reader writers n t within e = within n (and_parts (not (eqb n reader)) (marked writers n) e).1

pub third_in : (source reader : ℕ) (earlier later : List Bool) (n : ℕ) (t : Constraints) → Within earlier t → Within later t → third source reader earlier later n ≡ true → Member t n
third_in source reader earlier later n t we wl e =
    elim (or_cases (marked earlier n) (marked later n) (and_parts (not (eqb n source) && not (eqb n reader)) (marked earlier n || marked later n) e).1) [ inl x ↦ we n x | inr x ↦ wl n x ]

module _ (t : Constraints) (reader : ℕ) (writers : List Bool) where
  -- the reader comes before those below n
  abbrev pub FirstUpto : ℕ → Constraints → Type 0
  FirstUpto n t' = Member t reader → Within writers t → Notes (λ a b. first reader writers a b && ltb b n) none_apart t t'

  -- none before the loop, and all after it
  pub first_none : FirstUpto 1 t
  first_none cr within =
      notes_same none_ahead (λ a b. first reader writers a b && ltb b 1) none_apart none_apart t t
      (λ a b. sym (upto_none (eqb a reader) (other reader writers) (and_right (not (eqb 0 reader)) (marked writers 0) refl) b)) (λ j r n. refl) (notes_none t)

  pub first_all : (n : ℕ) (t' : Constraints) → FirstUpto n t' → 65 ≤ n → PutsFirst t t' reader writers
  first_all n t' had end cr within =
      notes_same (λ a b. first reader writers a b && ltb b n) (first reader writers) none_apart none_apart t t'
      (λ a b. upto_all (eqb a reader) (other reader writers) n b (λ e. omega (arith, marked_low writers b (and_parts (not (eqb b reader)) (marked writers b) e).1))) (λ j r m. refl)
      (had cr within)

  module _ (n : ℕ) (t' : Constraints) (had : FirstUpto n t') where
    pub first_more : (t'' : Constraints) → other reader writers n ≡ true → PutsAhead t' t'' reader n → FirstUpto (n + 1) t''
    first_more t'' e put cr within =
        let so_far = had cr within in
        let cn = other_in reader writers n t within e in
        let now = put (same_member t t' so_far.members reader cr) (same_member t t' so_far.members n cn) in
        notes_same (λ a b. (first reader writers a b && ltb b n) || (eqb a reader && eqb b n)) (λ a b. first reader writers a b && ltb b (n + 1)) none_apart none_apart t t''
        (λ a b. upto_more (eqb a reader) (other reader writers) n e b) (λ j r m. refl)
        (notes_two (λ a b. first reader writers a b && ltb b n) (λ a b. eqb a reader && eqb b n) none_apart none_apart t t' t'' so_far now)

    pub first_past : other reader writers n ≡ false → FirstUpto (n + 1) t'
    first_past e cr within =
        notes_same (λ a b. first reader writers a b && ltb b n) (λ a b. first reader writers a b && ltb b (n + 1)) none_apart none_apart t t'
        (λ a b. upto_past (eqb a reader) (other reader writers) n e b) (λ j r m. refl) (had cr within)

module _ (t : Constraints) (source reader : ℕ) (earlier later : List Bool) where
  -- those below m do not stand between the source and the reader
  abbrev pub BetweenUpto : ℕ → Constraints → Type 0
  BetweenUpto m t' = Member t source → Member t reader → Within earlier t → Within later t → Notes none_ahead (λ j r n. split source reader earlier later j r n && ltb n m) t t'

  pub between_none : BetweenUpto 1 t
  between_none cs cr we wl =
      notes_same none_ahead none_ahead none_apart (λ j r n. split source reader earlier later j r n && ltb n 1) t t (λ a b. refl)
      (λ j r n. sym (upto_none (eqb j source && eqb r reader) (third source reader earlier later) (and_right (not (eqb 0 source) && not (eqb 0 reader)) (marked earlier 0 || marked later 0) refl) n)) (notes_none t)

  third_low : (n : ℕ) → third source reader earlier later n ≡ true → n < 65
  third_low n e =
      elim (or_cases (marked earlier n) (marked later n) (and_parts (not (eqb n source) && not (eqb n reader)) (marked earlier n || marked later n) e).1) [
        | inl x ↦ marked_low earlier n x
        | inr x ↦ marked_low later n x
      ]

  pub between_all : (m : ℕ) (t' : Constraints) → BetweenUpto m t' → 65 ≤ m → PutsBetween t t' source reader earlier later
  between_all m t' had end cs cr we wl =
      notes_same none_ahead none_ahead (λ j r n. split source reader earlier later j r n && ltb n m) (split source reader earlier later) t t' (λ a b. refl)
      (λ j r n. upto_all (eqb j source && eqb r reader) (third source reader earlier later) m n (λ e. omega (arith, third_low n e)))
      (had cs cr we wl)

  module _ (m : ℕ) (t' : Constraints) (had : BetweenUpto m t') where
    pub between_more : (t'' : Constraints) → third source reader earlier later m ≡ true → PutsApart t' t'' source reader m → BetweenUpto (m + 1) t''
    between_more t'' e put cs cr we wl =
        let so_far = had cs cr we wl in
        let cm = third_in source reader earlier later m t we wl e in
        let same = same_member t t' so_far.members in
        let now = put (same source cs) (same reader cr) (same m cm) in
        notes_same none_ahead none_ahead (λ j r n. (split source reader earlier later j r n && ltb n m) || ((eqb j source && eqb r reader) && eqb n m)) (λ j r n. split source reader earlier later j r n && ltb n (m + 1)) t t''
        (λ a b. refl) (λ j r n. upto_more (eqb j source && eqb r reader) (third source reader earlier later) m e n)
        (notes_two none_ahead none_ahead (λ j r n. split source reader earlier later j r n && ltb n m) (λ j r n. (eqb j source && eqb r reader) && eqb n m) t t' t'' so_far now)

    pub between_past : third source reader earlier later m ≡ false → BetweenUpto (m + 1) t'
    between_past e cs cr we wl =
        notes_same none_ahead none_ahead (λ j r n. split source reader earlier later j r n && ltb n m) (λ j r n. split source reader earlier later j r n && ltb n (m + 1)) t t'
        (λ a b. refl) (λ j r n. upto_past (eqb j source && eqb r reader) (third source reader earlier later) m e n) (had cs cr we wl)
