-- Laws of the report's lines.
--
--   LinesAreRead      == a line is its word, its numbers, which are read again from five columns
--                        each, and a line feed at the end
--   SaysNumbers       == the bytes are a word, numbers in five columns each, and a line feed
--   AreShort ns       == no number has more than five digits
--   OrderLineShows    == the line of the order shows what order answers
--   ViewsLineShows    == the line of the views shows what views answers: vmany where it is refused
--                        with 23, and vnone where it says that there is none
--   ClassLineShows    == the line of the class shows its number, and then its place
--   FaultLineShows    == the report of a fault is one line, with the number of what was refused,
--                        and then the number of the line of the sheet
--   ShowsViews        == the bytes are the line of the views
--   ShowsAnswers      == the text is three lines: the class, the order or a cycle, and the views
--   ReportShows       == the report without a fault shows the answers so
--   SheetReportShows  == and so does the report of a sheet, or the fault
use Rattle.std.specs.Prelude.{◌≡◌, ℕ, ◌+◌, ◌*◌, ◌^◌, ◌<◌, ◌≤◌, ◌↔◌, Bool, List, [], ◌∷◌, length}
use Rattle.std.specs.Prelude.{take, drop, Some, None, Ok, Err, Option, slice_get, codes}
use Rattle.refusals.specs.declared.Refusal.TheVariants.{ManyCues}
use Rattle.refusals.specs.Numbers.{layer_number_of}
use Rattle.columns.specs.Columns.{number}
use Rattle.items.specs.Kinds.{axis_alike}
use Rattle.history.specs.declared.Entry.{Entry}
use Rattle.history.specs.Order.{committed_cues, conflict_order}
use Rattle.history.specs.Views.{view_order}
use Rattle.recovery.specs.declared.Class.{Class}
use Rattle.recovery.specs.Classes.{class_number, class_place, class_of}
use Rattle.book.specs.declared.sheets.ReadFault.{ReadFault}
use Rattle.graphs.specs.declared.Found.TheVariants.{Order, Cycle}
use Rattle.serial.specs.OrderAnswer.{order_answer, order_list}
use Rattle.views.specs.Answer.{views_answer, views_list}
use Rattle.report.specs.Text.{order, cycle, views, vnone, vmany, line, class_line, order_line}
use Rattle.report.specs.Text.{views_text, report_text}
use Rattle.report.specs.Report.{read_sheet, report_of}

pub record LinesAreRead : Type 0 where
  pub long : (word ns : List ℕ) → length (line word ns) ≡ length word + 5 * length ns + 1
  pub word : (word ns : List ℕ) → take (length word) (line word ns) ≡ word
  pub numbers :
      (word ns : List ℕ) (i n : ℕ) → slice_get ns i ≡ Some n → n < 10 ^ 5 →
      number (take 5 (drop (length word + 5 * i) (line word ns))) ≡ Some n
  pub feed : (word ns : List ℕ) → drop (length word + 5 * length ns) (line word ns) ≡ 10 ∷ []

-- read back from its columns: nothing else stands there
pub record SaysNumbers (bs word ns : List ℕ) : Type 0 where
  pub long : length bs ≡ length word + 5 * length ns + 1
  pub begins : take (length word) bs ≡ word
  pub fields :
      (i n : ℕ) → slice_get ns i ≡ Some n →
      number (take 5 (drop (length word + 5 * i) bs)) ≡ Some n
  pub feed : drop (length word + 5 * length ns) bs ≡ 10 ∷ []

abbrev pub AreShort : List ℕ → Type 0
AreShort ns = (i n : ℕ) → slice_get ns i ≡ Some n → n < 10 ^ 5

-- a class line says the class's number and then its place
abbrev pub ClassLineShows : Type 0
ClassLineShows =
    (c : Class) → class_place c < 10 ^ 5 →
    SaysNumbers (class_line c) (codes "class") (class_number c ∷ class_place c ∷ [])

-- the cues of the second line: an order, or the cycle c
abbrev pub cues_shown : Option (List ℕ) → List ℕ → List ℕ
cues_shown (Some o) c = o
cues_shown None c = c

module _ {K : Type 0} (alike : K → K → Bool) (es : List (Entry K)) where
  pub record ShowsViews (bs : List ℕ) : Type 0 where
    pub many : 8 < length (committed_cues es) → SaysNumbers bs (codes "vmany") []
    pub none :
        length (committed_cues es) ≤ 8 → view_order alike es ≡ None →
        SaysNumbers bs (codes "vnone") []
    pub found :
        (o : List ℕ) → length (committed_cues es) ≤ 8 → view_order alike es ≡ Some o →
        AreShort o → SaysNumbers bs (codes "views") o

  -- the first 16 bytes; those after them, as many as the cues need; and those after both
  pub record ShowsAnswers (c text : List ℕ) : Type 0 where
    pub class :
        SaysNumbers (take 16 text) (codes "class")
        (class_number (class_of alike es) ∷ class_place (class_of alike es) ∷ [])
    pub ordered :
        (o : List ℕ) → conflict_order alike es ≡ Some o → AreShort o →
        SaysNumbers (take (6 + 5 * length o) (drop 16 text)) (codes "order") o
    pub cyclic :
        conflict_order alike es ≡ None → AreShort c →
        SaysNumbers (take (6 + 5 * length c) (drop 16 text)) (codes "cycle") c
    pub viewed : ShowsViews (drop (22 + 5 * length (cues_shown (conflict_order alike es) c)) text)

-- of what was read in from it, with the cycle that is at hand
pub record SheetReportShows : Type 0 where
  pub answers :
      (sheet c : List ℕ) (n : ℕ) → (read_sheet sheet).answer ≡ Ok n →
      ShowsAnswers axis_alike (read_sheet sheet).entries c (report_of sheet c)
  pub fault :
      (sheet c : List ℕ) (f : ReadFault) → (read_sheet sheet).answer ≡ Err f →
      SaysNumbers (report_of sheet c) (codes "fault")
      (layer_number_of f.layer ∷ f.line ∷ [])

module _ (K : Type 0) where
  -- whatever entries were read before the fault, and whatever cycle is at hand
  abbrev pub FaultLineShows : Type 0
  FaultLineShows =
      (alike : K → K → Bool) (f : ReadFault) (es : List (Entry K)) (c : List ℕ) →
      f.line < 10 ^ 5 →
      SaysNumbers (report_text alike (Err f) es c) (codes "fault")
      (layer_number_of f.layer ∷ f.line ∷ [])

  abbrev pub ReportShows : Type 0
  ReportShows =
      (alike : K → K → Bool) (n : ℕ) (es : List (Entry K)) (c : List ℕ) → length es < 10 ^ 5 →
      ShowsAnswers alike es c (report_text alike (Ok n) es c)

  -- the order, or the cycle in its place, in the cells that the call fills
  pub record OrderLineShows : Type 0 where
    pub ordered :
        (alike : K → K → Bool) (es : List (Entry K)) (list strip c : List ℕ) (n : ℕ) →
        order_answer alike es list strip c ≡ Ok (Order n) →
        order_line (conflict_order alike es) c
        ≡ line order (take n (order_list alike es list strip c))
    pub cyclic :
        (alike : K → K → Bool) (es : List (Entry K)) (list strip c : List ℕ) (n : ℕ) →
        order_answer alike es list strip c ≡ Ok (Cycle n) →
        order_line (conflict_order alike es) c
        ≡ line cycle (take n (order_list alike es list strip c))

  pub record ViewsLineShows : Type 0 where
    pub many :
        (alike : K → K → Bool) (es : List (Entry K)) (list : List ℕ) →
        (views_text alike es ≡ line vmany []) ↔ (views_answer alike es list ≡ Err ManyCues)
    -- a list of eight cells is never too short
    pub none :
        (alike : K → K → Bool) (es : List (Entry K)) (list : List ℕ) → 8 ≤ length list →
        (views_text alike es ≡ line vnone []) ↔ (views_answer alike es list ≡ Ok None)
    pub shown :
        (alike : K → K → Bool) (es : List (Entry K)) (list : List ℕ) (n : ℕ) →
        views_answer alike es list ≡ Ok (Some n) →
        views_text alike es ≡ line views (take n (views_list alike es list))
