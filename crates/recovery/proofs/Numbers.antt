-- The number of a class says which rules never break, and its place where the next one breaks first.
use Rattle.std.proofs.Common.{◌≡◌, ℕ, ◌<◌, ◌↔◌, Bool, List, sym, refl, subst, arith}
use Rattle.history.specs.declared.Entry.{Entry}
use Rattle.recovery.specs.declared.Class.{Class}
use Rattle.recovery.specs.declared.Class.TheVariants.{NotRecoverable, Recoverable, Cascadeless, Strict}
use Rattle.recovery.specs.Classes.{class_of}
use Rattle.recovery.specs.Laws.{IsNumbered, ClassIsNumbered}
use Rattle.recovery.specs.ReadsFrom.{IsFirstBreak, StrictnessBreaks, CascadelessnessBreaks, RecoverabilityBreaks, IsClass}
use Rattle.recovery.proofs.BreakLaws.{breaks_come_together}
use Rattle.recovery.proofs.ByPlaces.{strict_to, cascadeless_to, cascadeless_from, recoverable_from, one_first, class_right}

-- a place is the one where the rule breaks first, exactly when it breaks first there
place_told : (Breaks : ℕ → Type 0) (q : ℕ) → IsFirstBreak Breaks q → (p : ℕ) → (p ≡ q) ↔ IsFirstBreak Breaks p
place_told Breaks q h p = (λ e. subst (IsFirstBreak Breaks) (sym e) h, λ k. one_first Breaks p q k h)

module _ {K : Type 0} (alike : K → K → Bool) (es : List (Entry K)) where
  -- a break of cascadelessness is one of strictness, and comes before one of recoverability
  strict_there : (q : ℕ) → CascadelessnessBreaks alike es q → StrictnessBreaks alike es q
  strict_there q b = strict_to alike es q ((breaks_come_together K).strict alike es q (cascadeless_from alike es q b))

  cascadeless_earlier : (q : ℕ) → RecoverabilityBreaks alike es q → (p : ℕ) × (p < q) × CascadelessnessBreaks alike es p
  cascadeless_earlier q b =
      let r = (breaks_come_together K).cascadeless alike es q (recoverable_from alike es q b) in
      (r.0, r.1, cascadeless_to alike es r.0 r.2)

  numbered : (c : Class) → IsClass alike es c → IsNumbered alike es c
  numbered (NotRecoverable q) h =
      let r = cascadeless_earlier q h.breaks in
      let s = strict_there r.0 r.2 in
      record {
        most = omega arith;
        strict = (λ e. absurd (omega (arith, e)), λ n. absurd (n r.0 s));
        cascadeless = (λ l. absurd (omega (arith, l)), λ n. absurd (n r.0 r.2));
        recoverable = (λ l. absurd (omega (arith, l)), λ n. absurd (n q h.breaks));
        no_place = (λ e. absurd (omega (arith, e, r.1)), λ n. absurd (n r.0 s));
        not_strict = λ e. absurd (omega (arith, e));
        not_cascadeless = λ e. absurd (omega (arith, e));
        not_recoverable = λ e. place_told (RecoverabilityBreaks alike es) q h;
      }
  numbered (Recoverable q) h =
      let s = strict_there q h.0.breaks in
      let low = s.before in
      record {
        most = omega arith;
        strict = (λ e. absurd (omega (arith, e)), λ n. absurd (n q s));
        cascadeless = (λ l. absurd (omega (arith, l)), λ n. absurd (n q h.0.breaks));
        recoverable = (λ l. h.1, λ n. omega arith);
        no_place = (λ e. absurd (omega (arith, e, low)), λ n. absurd (n q s));
        not_strict = λ e. absurd (omega (arith, e));
        not_cascadeless = λ e. place_told (CascadelessnessBreaks alike es) q h.0;
        not_recoverable = λ e. absurd (omega (arith, e));
      }
  numbered (Cascadeless q) h =
      let low = h.0.breaks.before in
      record {
        most = omega arith;
        strict = (λ e. absurd (omega (arith, e)), λ n. absurd (n q h.0.breaks));
        cascadeless = (λ l. h.1, λ n. omega arith);
        recoverable = (λ l. h.2, λ n. omega arith);
        no_place = (λ e. absurd (omega (arith, e, low)), λ n. absurd (n q h.0.breaks));
        not_strict = λ e. place_told (StrictnessBreaks alike es) q h.0;
        not_cascadeless = λ e. absurd (omega (arith, e));
        not_recoverable = λ e. absurd (omega (arith, e));
      }
  numbered Strict h =
      record {
        most = omega arith;
        strict = (λ e. h.0, λ n. omega arith);
        cascadeless = (λ l. h.1, λ n. omega arith);
        recoverable = (λ l. h.2, λ n. omega arith);
        no_place = (λ e. h.0, λ n. omega arith);
        not_strict = λ e. absurd (omega (arith, e));
        not_cascadeless = λ e. absurd (omega (arith, e));
        not_recoverable = λ e. absurd (omega (arith, e));
      }

pub class_is_numbered : (K : Type 0) → ClassIsNumbered K
class_is_numbered K alike es = numbered alike es (class_of alike es) (class_right alike es (class_of alike es) refl)
