-- How long a report is at least, and that its length tells it from a refusal. Assumes nothing.
use Rattle.std.proofs.Common.{◌≡◌, ℕ, ◌≤◌, Bool, List, [], ◌∷◌, ◌++◌, length, nat_lt, Some, None}
use Rattle.std.proofs.Common.{Ok, Err, Option, Result, refl, sym, ◌∙◌, arith}
use Rattle.std.proofs.lemmas.List.{length-append}
use Rattle.std.proofs.lemmas.Bool.{cond_both}
use Rattle.refusals.specs.declared.Refusal.TheVariants.{ReportShort}
use Rattle.refusals.specs.Numbers.{number_of, layer_number_of}
use Rattle.items.specs.Kinds.{axis_alike}
use Rattle.history.specs.declared.Entry.{Entry}
use Rattle.history.specs.Order.{committed_cues, conflict_order}
use Rattle.history.specs.Views.{view_order}
use Rattle.recovery.specs.declared.Class.{Class}
use Rattle.recovery.specs.Classes.{class_number, class_place, class_of}
use Rattle.book.specs.declared.sheets.ReadFault.{ReadFault}
use Rattle.report.specs.Text.{class, order, cycle, views, vnone, vmany, fault, line, class_line}
use Rattle.report.specs.Text.{order_line, views_line, views_text, report_text}
use Rattle.report.specs.Report.{read_sheet, Written}
use Rattle.report.proofs.Writing.{line_long}

class_line_long : (c : Class) → length (class_line c) ≡ 16
class_line_long c = line_long class (class_number c ∷ class_place c ∷ []) refl

order_line_long : (o : Option (List ℕ)) (c : List ℕ) → 6 ≤ length (order_line o c)
order_line_long (Some o) c = omega (arith, line_long order o refl)
order_line_long None c = omega (arith, line_long cycle c refl)

views_line_long : (o : Option (List ℕ)) → 6 ≤ length (views_line o)
views_line_long (Some o) = omega (arith, line_long views o refl)
views_line_long None = omega (arith, line_long vnone [] refl)

module _ {K : Type 0} (alike : K → K → Bool) where
  views_text_long : (es : List (Entry K)) → 6 ≤ length (views_text alike es)
  views_text_long es =
      cond_both
      (nat_lt 8 (length (committed_cues es)))
      (line vmany [])
      (views_line (view_order alike es))
      (λ (t : List ℕ). 6 ≤ length t)
      (λ e. omega (arith, line_long vmany [] refl))
      (λ e. views_line_long (view_order alike es))

  -- one line of 16 bytes, or one of 16 and two of 6 at least
  report_text_apart : (r : Result ℕ ReadFault) (es : List (Entry K)) (c : List ℕ)
      → length (report_text alike r es c) ≡ number_of ReportShort
      → ⊥
  report_text_apart (Ok n) es c is =
      let first = class_line (class_of alike es) in
      let second = order_line (conflict_order alike es) c in
      let third = views_text alike es in
      omega (
        arith,
        is,
        length-append first (second ++ third),
        length-append second third,
        class_line_long (class_of alike es),
        order_line_long (conflict_order alike es) c,
        views_text_long es,
      )
  report_text_apart (Err f) es c is =
      omega (arith, is, line_long fault (layer_number_of f.layer ∷ f.line ∷ []) refl)

-- a report is told from a refusal by its length
pub written_apart : (sheet space space' : List ℕ) (n : ℕ)
    → Written sheet space space' n
    → n ≡ number_of ReportShort
    → ⊥
written_apart sheet space space' n w is =
    let read = read_sheet sheet in
    report_text_apart axis_alike read.answer read.entries w.shown (sym w.long ∙ is)
