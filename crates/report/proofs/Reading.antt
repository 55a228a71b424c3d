-- The lines of a report are read back: what they say stands in their columns.
use Rattle.std.proofs.Common.{◌≡◌, ℕ, zero, suc, ◌+◌, ◌*◌, ◌^◌, ◌<◌, ◌≤◌, Bool, ltb}
use Rattle.std.proofs.Common.{List, [], ◌∷◌, ◌++◌, length, take, drop, Some, None, Option, Result}
use Rattle.std.proofs.lemmas.List.{length-append, take_at}
use Rattle.std.proofs.Common.{sym, ap, subst, ◌∙◌, append_assoc, arith}
use Rattle.std.specs.Prelude.{codes}
use Rattle.std.proofs.lemmas.Bool.{cond-true, cond-false, lt-ltb, le-ltb}
use Rattle.refusals.specs.declared.Layer.{Layer}
use Rattle.refusals.specs.declared.Layer.TheVariants.{Line, Book}
use Rattle.refusals.specs.declared.LineRefusal.{LineRefusal}
use Rattle.refusals.specs.declared.LineRefusal.TheVariants.{Shape, CueField, Letter, ItemField}
use Rattle.refusals.specs.declared.Refusal.{Refusal}
use Rattle.refusals.specs.declared.Refusal.TheVariants.{NoSuchCue, CueEnded, BookFull, CueEntered}
use Rattle.refusals.specs.declared.Refusal.TheVariants.{ListShort, StripShort, ManyCues, CuePair}
use Rattle.refusals.specs.declared.Refusal.TheVariants.{ReportShort, SpaceShort, NoSuchWinch}
use Rattle.refusals.specs.Numbers.{line_number_of, number_of, layer_number_of}
use Rattle.history.specs.declared.Entry.{Entry}
use Rattle.history.specs.Order.{committed_cues, conflict_order}
use Rattle.history.specs.Views.{view_order}
use Rattle.recovery.specs.declared.Class.{Class}
use Rattle.recovery.specs.declared.Class.TheVariants.{NotRecoverable, Recoverable, Cascadeless}
use Rattle.recovery.specs.declared.Class.TheVariants.{Strict}
use Rattle.recovery.specs.Classes.{class_number, class_place, class_of}
use Rattle.report.specs.Text.{line, class_line, order_line, views_line, views_text, vmany}
use Rattle.report.specs.Laws.{SaysNumbers, AreShort, ClassLineShows, cues_shown, ShowsViews}
use Rattle.report.specs.Laws.{FaultLineShows, ReportShows, ShowsAnswers, SheetReportShows}
use Rattle.items.specs.declared.Axis.{Axis}
use Rattle.items.specs.Kinds.{axis_alike, axis_in}
use Rattle.book.specs.declared.sheets.ReadFault.{ReadFault}
use Rattle.book.specs.Reading.{lines_of}
use Rattle.report.specs.Text.{report_text}
use Rattle.report.specs.Report.{read_sheet}
use Rattle.report.proofs.Bounds.{place_within, entries_few, line_few}
use Rattle.report.proofs.Showing.{lines_read, drop_all}

line_says : (word ns : List ℕ) → AreShort ns → SaysNumbers (line word ns) word ns
line_says word ns short =
    record {
      long = lines_read.long word ns;
      begins = lines_read.word word ns;
      fields = λ i n h. lines_read.numbers word ns i n h (short i n h);
      feed = lines_read.feed word ns;
    }

none_short : AreShort []
none_short i n h = cc

two_short : (a b : ℕ) → a < 10 ^ 5 → b < 10 ^ 5 → AreShort (a ∷ b ∷ [])
two_short a b x y zero n h = let e : a ≡ n = cc in omega (arith, x)
two_short a b x y (suc zero) n h = let e : b ≡ n = cc in omega (arith, y)
two_short a b x y (suc (suc i)) n h = cc

class_small : (c : Class) → class_number c < 10 ^ 5
class_small (NotRecoverable p) = omega arith
class_small (Recoverable p) = omega arith
class_small (Cascadeless p) = omega arith
class_small Strict = omega arith

pub class_shows : ClassLineShows
class_shows c small =
    line_says (codes "class") (class_number c ∷ class_place c ∷ [])
    (two_short (class_number c) (class_place c) (class_small c) small)

line_refusal_small : (f : LineRefusal) → line_number_of f < 10 ^ 5
line_refusal_small Shape = omega arith
line_refusal_small CueField = omega arith
line_refusal_small Letter = omega arith
line_refusal_small ItemField = omega arith

refusal_small : (f : Refusal) → number_of f < 10 ^ 5
refusal_small NoSuchCue = omega arith
refusal_small CueEnded = omega arith
refusal_small BookFull = omega arith
refusal_small CueEntered = omega arith
refusal_small ListShort = omega arith
refusal_small StripShort = omega arith
refusal_small ManyCues = omega arith
refusal_small CuePair = omega arith
refusal_small ReportShort = omega arith
refusal_small SpaceShort = omega arith
refusal_small NoSuchWinch = omega arith

layer_small : (f : Layer) → layer_number_of f < 10 ^ 5
layer_small (Line f) = line_refusal_small f
layer_small (Book f) = refusal_small f

pub fault_shows : (K : Type 0) → FaultLineShows K
fault_shows K alike f es c small =
    line_says (codes "fault") (layer_number_of f.layer ∷ f.line ∷ [])
    (two_short (layer_number_of f.layer) f.line (layer_small f.layer) small)

module _ {K : Type 0} (alike : K → K → Bool) (es : List (Entry K)) where
  order_says :
      (a : Option (List ℕ)) (o c : List ℕ) → a ≡ Some o → AreShort o →
      SaysNumbers (order_line a c) (codes "order") o
  order_says a o c e short =
      subst (λ (x : Option (List ℕ)). SaysNumbers (order_line x c) (codes "order") o) (sym e)
      (line_says (codes "order") o short)

  cycle_says :
      (a : Option (List ℕ)) (c : List ℕ) → a ≡ None → AreShort c →
      SaysNumbers (order_line a c) (codes "cycle") c
  cycle_says a c e short =
      subst (λ (x : Option (List ℕ)). SaysNumbers (order_line x c) (codes "cycle") c) (sym e)
      (line_says (codes "cycle") c short)

  few_views :
      length (committed_cues es) ≤ 8 → views_text alike es ≡ views_line (view_order alike es)
  few_views h =
      cond-false (ltb 8 (length (committed_cues es))) (line vmany [])
      (views_line (view_order alike es)) (le-ltb 8 (length (committed_cues es)) h)

  many_views : 8 < length (committed_cues es) → views_text alike es ≡ line vmany []
  many_views h =
      cond-true (ltb 8 (length (committed_cues es))) (line vmany [])
      (views_line (view_order alike es)) (lt-ltb 8 (length (committed_cues es)) h)

  views_say :
      (word ns : List ℕ) → views_text alike es ≡ line word ns → AreShort ns →
      SaysNumbers (views_text alike es) word ns
  views_say word ns e short =
      subst (λ (bs : List ℕ). SaysNumbers bs word ns) (sym e) (line_says word ns short)

  views_shown : ShowsViews alike es (views_text alike es)
  views_shown =
      record {
        many = λ h. views_say (codes "vmany") [] (many_views h) none_short;
        none = λ h e. views_say (codes "vnone") [] (few_views h ∙ ap views_line e) none_short;
        found = λ o h e short.
            views_say (codes "views") o (few_views h ∙ ap views_line e) short;
      }

order_long :
    (a : Option (List ℕ)) (c : List ℕ) → length (order_line a c) ≡ 6 + 5 * length (cues_shown a c)
order_long (Some o) c = lines_read.long (codes "order") o ∙ omega arith
order_long None c = lines_read.long (codes "cycle") c ∙ omega arith

class_long : (c : Class) → length (class_line c) ≡ 16
class_long c = lines_read.long (codes "class") (class_number c ∷ class_place c ∷ [])

-- three texts after each other, cut again
module _ (a b d : List ℕ) (n m : ℕ) (first : length a ≡ n) (second : length b ≡ m) where
  cut_first : take n (a ++ (b ++ d)) ≡ a
  cut_first = take_at a (b ++ d) n first

  cut_second : take m (drop n (a ++ (b ++ d))) ≡ b
  cut_second = ap (take m) (drop_all a (b ++ d) n first) ∙ take_at b d m second

  cut_third : drop (n + m) (a ++ (b ++ d)) ≡ d
  cut_third =
      ap (drop (n + m)) (sym (append_assoc a b d))
      ∙ drop_all (a ++ b) d (n + m)
      (length-append a b ∙ ap (λ (k : ℕ). k + length b) first ∙ ap (λ (k : ℕ). n + k) second)

pub report_shows : (K : Type 0) → ReportShows K
report_shows K alike n es c few =
    let within = place_within alike es in
    let found = conflict_order alike es in
    let a = class_line (class_of alike es) in
    let b = order_line found c in
    let d = views_text alike es in
    let m = 6 + 5 * length (cues_shown found c) in
    let one = class_long (class_of alike es) in
    let two = order_long found c in
    let class_says = class_shows (class_of alike es) (omega (arith, within, few)) in
    let at : 22 + 5 * length (cues_shown found c) ≡ 16 + m = omega arith in
    record {
      class =
          subst
          (λ (bs : List ℕ). SaysNumbers bs (codes "class")
          (class_number (class_of alike es) ∷ class_place (class_of alike es) ∷ []))
          (sym (cut_first a b d 16 m one two)) class_says;
      ordered = λ o e short.
          let long : length b ≡ 6 + 5 * length o =
          two ∙ ap (λ (x : Option (List ℕ)). 6 + 5 * length (cues_shown x c)) e in
          subst (λ (bs : List ℕ). SaysNumbers bs (codes "order") o)
          (sym (cut_second a b d 16 (6 + 5 * length o) one long))
          (order_says alike es found o c e short);
      cyclic = λ e short.
          let long : length b ≡ 6 + 5 * length c =
          two ∙ ap (λ (x : Option (List ℕ)). 6 + 5 * length (cues_shown x c)) e in
          subst (λ (bs : List ℕ). SaysNumbers bs (codes "cycle") c)
          (sym (cut_second a b d 16 (6 + 5 * length c) one long))
          (cycle_says alike es found c e short);
      viewed =
          subst (ShowsViews alike es)
          (sym (ap (λ (k : ℕ). drop k (a ++ (b ++ d))) at ∙ cut_third a b d 16 m one two))
          (views_shown alike es);
    }

-- a sheet has no more entries than places, and a fault lies no further on
pub sheet_shows : SheetReportShows
sheet_shows =
    record {
      answers = λ sheet c n e.
          let few = entries_few axis_in 2048 (lines_of sheet) in
          subst
          (λ (r : Result ℕ ReadFault). ShowsAnswers axis_alike (read_sheet sheet).entries c (report_text axis_alike r (read_sheet sheet).entries c))
          (sym e) (report_shows Axis axis_alike n (read_sheet sheet).entries c (omega (arith, few)));
      fault = λ sheet c f e.
          let small = line_few axis_in 2048 (lines_of sheet) f e in
          subst
          (λ (r : Result ℕ ReadFault). SaysNumbers (report_text axis_alike r (read_sheet sheet).entries c) (codes "fault") (layer_number_of f.layer ∷ f.line ∷ []))
          (sym e) (fault_shows Axis axis_alike f (read_sheet sheet).entries c (omega (arith, small)));
    }
