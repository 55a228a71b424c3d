-- What notes leave in the tables, one after another. Assumes nothing.
use Rattle.std.proofs.Common.{◌≡◌, ℕ, ◌+◌, ◌<◌, ◌≤◌, Bool, true, false, ◌&&◌, ◌||◌, eqb, ltb, length, set, Some, sym, refl, ap, ◌∙◌, inl, inr, arith}
use mathlib.Core.Bool.{and-true, or_assoc, or-false}
use Rattle.std.proofs.lemmas.Bool.{and_from, and_left, and_parts, and_right, cases_Bool, cases_eq, cases_lt, eq-eqb, eqb-false, eqb-true, lt-ltb, le-ltb, or_right}
use Rattle.views.specs.declared.constraints.Constraints.{Constraints}
use Rattle.views.specs.Noted.{Notes, none_ahead, none_apart}
use Rattle.views.specs.Tables.{pair_in, triple_in, ahead_in, apart_in}
use Rattle.views.proofs.Ranking.{members_few, pair_same, triple_same, told_set}

-- nothing is noted
pub notes_none : (t : Constraints) → Notes none_ahead none_apart t t
notes_none t = record { members = refl; ahead = λ a b. sym (or-false (ahead_in t a b)); apart = λ j r n. sym (or-false (apart_in t j r n)) }

-- other tests that say the same
pub notes_same : (before before' : ℕ → ℕ → Bool) (between between' : ℕ → ℕ → ℕ → Bool) (t t' : Constraints) → ((a b : ℕ) → before a b ≡ before' a b) → ((j r n : ℕ) → between j r n ≡ between' j r n) → Notes before between t t' → Notes before' between' t t'
notes_same before before' between between' t t' ea ep notes =
    record {
      members = notes.members;
      ahead = λ a b. notes.ahead a b ∙ ap (λ (x : Bool). ahead_in t a b || x) (ea a b);
      apart = λ j r n. notes.apart j r n ∙ ap (λ (x : Bool). apart_in t j r n || x) (ep j r n);
    }

pub notes_two : (before before' : ℕ → ℕ → Bool) (between between' : ℕ → ℕ → ℕ → Bool) (t u v : Constraints) → Notes before between t u → Notes before' between' u v → Notes (λ a b. before a b || before' a b) (λ j r n. between j r n || between' j r n) t v
notes_two before before' between between' t u v one two =
    record {
      members = two.members ∙ one.members;
      ahead = λ a b. two.ahead a b ∙ ap (λ (x : Bool). x || before' a b) (one.ahead a b) ∙ or_assoc (ahead_in t a b) (before a b) (before' a b);
      apart = λ j r n. two.apart j r n ∙ ap (λ (x : Bool). x || between' j r n) (one.apart j r n) ∙ or_assoc (apart_in t j r n) (between j r n) (between' j r n);
    }

module _ (t : Constraints) (at : ℕ) where
  pub notes_ahead : (a b : ℕ) → pair_in t.members.cues a b ≡ Some at → at < length t.ahead → Notes (λ x y. eqb x a && eqb y b) none_apart t (record { members = t.members; ahead = set t.ahead at true; apart = t.apart })
  notes_ahead a b is within =
      record {
        members = refl;
        ahead = λ x y.
            told_set t.ahead at (pair_in t.members.cues x y) (eqb x a && eqb y b) within
            (λ e. let parts = and_parts (eqb x a) (eqb y b) e in (λ i. pair_in t.members.cues (eqb-true x a parts.0 i) (eqb-true y b parts.1 i)) ∙ is)
            (λ e. let same = pair_same t.members.cues (members_few t.members) x y a b at e is in and_from (eqb x a) (eqb y b) (eq-eqb x a same.0) (eq-eqb y b same.1));
        apart = λ j r n. sym (or-false (apart_in t j r n));
      }

  pub notes_apart : (j r n : ℕ) → triple_in t.members.cues j r n ≡ Some at → at < length t.apart → Notes none_ahead (λ x y z. (eqb x j && eqb y r) && eqb z n) t (record { members = t.members; ahead = t.ahead; apart = set t.apart at true })
  notes_apart j r n is within =
      record {
        members = refl;
        ahead = λ a b. sym (or-false (ahead_in t a b));
        apart = λ x y z.
            told_set t.apart at (triple_in t.members.cues x y z) ((eqb x j && eqb y r) && eqb z n) within
            (λ e.
            let parts = and_parts (eqb x j && eqb y r) (eqb z n) e in
            let pair = and_parts (eqb x j) (eqb y r) parts.0 in
            (λ i. triple_in t.members.cues (eqb-true x j pair.0 i) (eqb-true y r pair.1 i) (eqb-true z n parts.1 i)) ∙ is)
            (λ e.
            let same = triple_same t.members.cues (members_few t.members) x y z j r n at e is in
            and_from (eqb x j && eqb y r) (eqb z n) (and_from (eqb x j) (eqb y r) (eq-eqb x j same.0) (eq-eqb y r same.1)) (eq-eqb z n same.2));
      }

past_more : (m n : ℕ) → n ≤ m → (m ≡ n → ⊥) → n + 1 ≤ m
past_more m n h ne = elim (cases_lt n m) [ inl less ↦ omega arith | inr more ↦ absurd (ne (omega arith)) ]

reach : (m n : ℕ) → (m ≡ n → ⊥) → ltb m n ≡ ltb m (n + 1)
reach m n ne =
    elim (cases_lt m n) [
      | inl less ↦ lt-ltb m n less ∙ sym (lt-ltb m (n + 1) (omega arith))
      | inr more ↦ le-ltb m n more ∙ sym (le-ltb m (n + 1) (past_more m n more ne))
    ]

one_more : (given test below here below' : Bool) → (here ≡ true → (test ≡ true) × (below' ≡ true)) → (here ≡ false → below ≡ below') → (((given && test) && below) || (given && here)) ≡ ((given && test) && below')
one_more false test below here below' f g = refl
one_more true test below true below' f g = or_right (test && below) true refl ∙ sym (and_from test below' (f refl).0 (f refl).1)
one_more true test below false below' f g = or-false (test && below) ∙ ap (λ (x : Bool). test && x) (g refl)

-- a loop over the cues, of which those below n had their turn
module _ (given : Bool) (test : ℕ → Bool) where
  pub upto_none : test 0 ≡ false → (m : ℕ) → ((given && test m) && ltb m 1) ≡ false
  upto_none e m =
      elim (cases_eq m 0) [
        | inl z ↦ and_left (given && test m) (ltb m 1) (and_right given (test m) (ap test z ∙ e))
        | inr some ↦ and_right (given && test m) (ltb m 1) (le-ltb m 1 (past_more m 0 (omega arith) some))
      ]

  pub upto_more : (n : ℕ) → test n ≡ true → (m : ℕ) → (((given && test m) && ltb m n) || (given && eqb m n)) ≡ ((given && test m) && ltb m (n + 1))
  upto_more n e m =
      one_more given (test m) (ltb m n) (eqb m n) (ltb m (n + 1))
      (λ h. let same = eqb-true m n h in (ap test same ∙ e, lt-ltb m (n + 1) (omega arith)))
      (λ h. reach m n (eqb-false m n h))

  pub upto_past : (n : ℕ) → test n ≡ false → (m : ℕ) → ((given && test m) && ltb m n) ≡ ((given && test m) && ltb m (n + 1))
  upto_past n e m =
      elim (cases_eq m n) [
        | inl same ↦
            let none : (given && test m) ≡ false = and_right given (test m) (ap test same ∙ e) in
            and_left (given && test m) (ltb m n) none ∙ sym (and_left (given && test m) (ltb m (n + 1)) none)
        | inr ne ↦ ap (λ (x : Bool). (given && test m) && x) (reach m n ne)
      ]

  pub upto_all : (n m : ℕ) → (test m ≡ true → m < n) → ((given && test m) && ltb m n) ≡ (given && test m)
  upto_all n m low =
      elim (cases_Bool (test m)) [
        | inl e ↦ ap (λ (x : Bool). (given && test m) && x) (lt-ltb m n (low e)) ∙ and-true (given && test m)
        | inr e ↦
            let none : (given && test m) ≡ false = and_right given (test m) e in
            and_left (given && test m) (ltb m n) none ∙ sym none
      ]
