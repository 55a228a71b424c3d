-- Which numbers the committed cues are. Assumes nothing.
use Rattle.std.proofs.Common.{◌≡◌, ℕ, ◌≤◌, Bool, true, false, eqb, leb, List, [], ◌∷◌, sym, refl, inl, inr}
use Rattle.std.specs.List.{AllByRecursion as All}
use Rattle.std.proofs.lemmas.Bool.{and_from, and_parts, eqb-true, false≢true, le-leb, leb-true, or_cases}
use Rattle.lists.specs.Lists.{some, has}
use Rattle.orders.proofs.Among.{mem_among, among_all}
use Rattle.orders.proofs.Precedence.{stands_has}
use Rattle.history.specs.declared.Entry.{Entry}
use Rattle.history.specs.Entries.{is_cue, is_commit, by, committed}
use Rattle.history.specs.Order.{committed_cues}

pub same_tests : (a b : Bool) → (a ≡ true → b ≡ true) → (b ≡ true → a ≡ true) → a ≡ b
same_tests true b f g = sym (f refl)
same_tests false true f g = g refl
same_tests false false f g = refl

pub is_cue_lem : (n : ℕ) → 1 ≤ n → n ≤ 64 → is_cue n ≡ true
is_cue_lem n l h = and_from (leb 1 n) (leb n 64) (le-leb 1 n l) (le-leb n 64 h)

pub cue_low : (n : ℕ) → is_cue n ≡ true → 1 ≤ n
cue_low n h = leb-true 1 n (and_parts (leb 1 n) (leb n 64) h).0

pub cue_high : (n : ℕ) → is_cue n ≡ true → n ≤ 64
cue_high n h = leb-true n 64 (and_parts (leb 1 n) (leb n 64) h).1

pub all_has : (P : ℕ → Type 0) (m : ℕ) (us : List ℕ) → All P us → has m us ≡ true → P m
all_has P m [] h k = absurd (false≢true k)
all_has P m (u ∷ us) h k =
    elim (or_cases (eqb u m) (has m us) k) [ inl e ↦ rw (eqb-true u m e) at h.0 | inr l ↦ all_has P m us h.1 l ]

module _ {K : Type 0} where
  -- a committed cue is a cue
  pub committed_cue : (es : List (Entry K)) (n : ℕ) → committed es n ≡ true → is_cue n ≡ true
  committed_cue es n h = (and_parts (is_cue n) (some (by n is_commit) es) h).0

  pub has_committed : (es : List (Entry K)) (m : ℕ) → has m (committed_cues es) ≡ committed es m
  has_committed es m =
      same_tests (has m (committed_cues es)) (committed es m)
      (λ h. (all_has (λ n. (1 ≤ n) × (n ≤ 64) × (committed es n ≡ true)) m (committed_cues es) (among_all (committed es)) h).2)
      (λ h. let c = committed_cue es m h in stands_has m (committed_cues es) (mem_among (committed es) m (cue_low m c) (cue_high m c) h))
