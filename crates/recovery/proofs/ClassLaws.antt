-- Laws of classes. Assumes nothing.
use Rattle.std.proofs.Common.{◌≡◌, ℕ, ◌+◌, ◌-◌, ◌≤◌, Bool, List, [], take, drop, Some, None, Option, sym, refl, ◌∙◌, arith}
use Rattle.lists.specs.Lists.{first_from}
use Rattle.lists.proofs.FirstFrom.{first_more}
use Rattle.history.specs.declared.Entry.{Entry}
use Rattle.recovery.specs.declared.Class.TheVariants.{NotRecoverable, Recoverable, Cascadeless, Strict}
use Rattle.recovery.specs.Breaks.{breaks_recoverable, breaks_cascadeless, breaks_strict}
use Rattle.recovery.specs.Classes.{class_number, ranked, class_of}
use Rattle.recovery.specs.Laws.{ClassNeverRises}
use Rattle.recovery.proofs.BreakLaws.{strict_cascadeless, cascadeless_recoverable, cascadeless_from_strict, recoverable_from_cascadeless}

-- the first break stays the first
abbrev Stays : Option ℕ → Option ℕ → Type 0
Stays before after = (p : ℕ) → before ≡ Some p → after ≡ Some p

at_most_three : (r c s : Option ℕ) → class_number (ranked r c s) ≤ 3
at_most_three (Some p) c s = omega arith
at_most_three None (Some p) s = omega arith
at_most_three None None (Some p) = omega arith
at_most_three None None None = omega arith

falls : (r c s r' c' s' : Option ℕ) → Stays r r' → Stays c c' → Stays s s' → class_number (ranked r' c' s') ≤ class_number (ranked r c s)
falls (Some p) c s r' c' s' hr hc hs = rw (hr p refl) (omega arith)
falls None (Some p) s (Some q) c' s' hr hc hs = omega arith
falls None (Some p) s None c' s' hr hc hs = rw (hc p refl) (omega arith)
falls None None (Some p) (Some q) c' s' hr hc hs = omega arith
falls None None (Some p) None (Some q) s' hr hc hs = omega arith
falls None None (Some p) None None s' hr hc hs = rw (hs p refl) (omega arith)
falls None None None r' c' s' hr hc hs = at_most_three r' c' s'

pub class_never_rises : (K : Type 0) → ClassNeverRises K
class_never_rises K alike es more =
    falls _ _ _ _ _ _
    (λ p h. first_more (breaks_recoverable alike) 1 [] es more p h)
    (λ p h. first_more (breaks_cascadeless alike) 1 [] es more p h)
    (λ p h. first_more (breaks_strict alike) 1 [] es more p h)

-- the class by searches for breaks, where each begins at the place that the one before found
module _ {K : Type 0} (alike : K → K → Bool) (es : List (Entry K)) where
  abbrev Found : (List (Entry K) → Entry K → Bool) → ℕ → Option ℕ → Type 0
  Found rule n o = o ≡ first_from rule (n + 1) (take n es) (drop n es)

  pub class_strict : Found (breaks_strict alike) 0 None → Strict ≡ class_of alike es
  class_strict s =
      let k = strict_cascadeless alike es (sym s) in
      λ i. ranked (sym (cascadeless_recoverable alike es k) i) (sym k i) (s i)

  pub class_cascadeless : (p : ℕ) → Found (breaks_strict alike) 0 (Some p) → Found (breaks_cascadeless alike) (p - 1) None → Cascadeless p ≡ class_of alike es
  class_cascadeless p s c =
      let k = c ∙ cascadeless_from_strict alike es p (sym s) in
      λ i. ranked (sym (cascadeless_recoverable alike es (sym k)) i) (k i) (s i)

  module _ (p q : ℕ) (s : Found (breaks_strict alike) 0 (Some p)) (c : Found (breaks_cascadeless alike) (p - 1) (Some q)) where
    last : (o : Option ℕ) → Found (breaks_recoverable alike) (q - 1) o → ranked o (Some q) (Some p) ≡ class_of alike es
    last o r =
        let k = c ∙ cascadeless_from_strict alike es p (sym s) in
        λ i. ranked ((r ∙ recoverable_from_cascadeless alike es q (sym k)) i) (k i) (s i)

    pub class_recoverable : Found (breaks_recoverable alike) (q - 1) None → Recoverable q ≡ class_of alike es
    class_recoverable r = last None r

    pub class_not_recoverable : (t : ℕ) → Found (breaks_recoverable alike) (q - 1) (Some t) → NotRecoverable t ≡ class_of alike es
    class_not_recoverable t r = last (Some t) r
