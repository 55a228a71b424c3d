-- What the report call answers, and what it leaves in the space.
use Rattle.std.specs.Prelude.{◌≡◌, ℕ, ◌+◌, ◌<◌, ◌≤◌, ◌↔◌, Bool, List, [], ◌++◌, length, drop}
use Rattle.std.specs.Prelude.{None, Ok, Err, Result}
use Rattle.refusals.specs.declared.Refusal.TheVariants.{ReportShort}
use Rattle.refusals.specs.Numbers.{number_of}
use Rattle.items.specs.declared.Axis.{Axis}
use Rattle.items.specs.Kinds.{axis_alike, axis_in}
use Rattle.history.specs.declared.Entry.{Entry}
use Rattle.history.specs.Order.{conflict_order, ConflictCycle}
use Rattle.history.specs.Views.{view_order}
use Rattle.history.specs.Answers.{outcome, AnswersOrder, ShownKeepsView, AnswersViews}
use Rattle.recovery.specs.Classes.{class_of}
use Rattle.recovery.specs.ReadsFrom.{IsClass}
use Rattle.book.specs.declared.sheets.ReadFault.{ReadFault}
use Rattle.book.specs.Reading.{Taken, read_in}
use Rattle.book.specs.ReadsIn.{ReadsIn}
use Rattle.report.specs.Text.{order_line, answers_text, report_text}

module _ {K : Type 0} (alike : K → K → Bool) (es : List (Entry K)) where
  -- the line of the order stands after the text; which cycle is shown is free
  pub record OrderWritten (text text' : List ℕ) : Type 0 where
    pub shown : List ℕ
    pub cycle : conflict_order alike es ≡ None → ConflictCycle alike es shown
    pub small : length text' ≤ length text + 326
    pub is : text' ≡ text ++ order_line (conflict_order alike es) shown

  -- what the lines show is right, with the cycle c where there is no order
  pub record AnswersRight (c : List ℕ) : Type 0 where
    pub class : IsClass alike es (class_of alike es)
    pub order : AnswersOrder alike es (outcome (conflict_order alike es) c)
    pub view : ShownKeepsView alike es (outcome (conflict_order alike es) c)
    pub views : AnswersViews alike es (view_order alike es)

  -- the text of the answers
  pub record AnswersWritten (text : List ℕ) : Type 0 where
    pub shown : List ℕ
    pub is : text ≡ answers_text alike es shown
    pub right : AnswersRight shown

-- a sheet of axes, read into an empty book of 2,048 places
abbrev pub read_sheet : List ℕ → Taken Axis
read_sheet sheet = read_in axis_in 2048 [] sheet

-- the bytes of the report, with the cycle c where there is no order
abbrev pub report_of : List ℕ → List ℕ → List ℕ
report_of sheet c = report_text axis_alike (read_sheet sheet).answer (read_sheet sheet).entries c

-- what the report shows is right: answers about the entries, with the cycle c, or a fault alone
abbrev pub ShowsRight : Result ℕ ReadFault → List (Entry Axis) → List ℕ → Type 0
ShowsRight (Ok n) es c = AnswersRight axis_alike es c
ShowsRight (Err f) es c = Unit {0}

-- the text of the report; which cycle is shown is free
pub record Told (sheet text : List ℕ) : Type 0 where
  pub shown : List ℕ
  pub is : text ≡ report_of sheet shown
  pub right : ShowsRight (read_sheet sheet).answer (read_sheet sheet).entries shown

-- the report stands at the front of the space, which is as it was after it; which cycle is shown
-- is free
pub record Written (sheet space space' : List ℕ) (n : ℕ) : Type 0 where
  pub shown : List ℕ
  pub long : n ≡ length (report_of sheet shown)
  pub bytes : space' ≡ report_of sheet shown ++ drop n space
  pub small : n ≤ 388
  pub right : ShowsRight (read_sheet sheet).answer (read_sheet sheet).entries shown
  pub reads : ReadsIn axis_in 2048 [] sheet (read_sheet sheet)

-- the same with a number for the refusal, as a program in C is answered: a space of fewer than
-- 388 bytes, and no other, is refused, and nothing is written; so that number is no report's length
pub record Reported (sheet space space' : List ℕ) (n : ℕ) : Type 0 where
  pub refuses : (n ≡ number_of ReportShort) ↔ (length space < 388)
  pub keeps : length space < 388 → space' ≡ space
  pub writes : 388 ≤ length space → Written sheet space space' n
