-- What a rehearsal prints of answers, and of a line that cannot be read. Assumes nothing.
use Rattle.std.specs.Prelude.{
  ℕ,
  List,
  [],
  ◌∷◌,
  ◌++◌,
  Some,
  None,
  Ok,
  Err,
  Result,
  nat_eq,
  if◌then◌else◌,
  codes,
  decimal,
  bytes_eq,
  count_by,
}
use Rattle.refusals.specs.Numbers.{number_of, layer_number_of}
use Rattle.refusals.specs.Words.{words_of, layer_words_of}
use Rattle.history.specs.declared.Ending.{Ending}
use Rattle.history.specs.declared.Ending.TheVariants.{Commit, Abort}
use Rattle.recovery.specs.Classes.{class_number, class_place}
use Rattle.runs.specs.declared.Answer.{Answer}
use Rattle.runs.specs.declared.Answer.TheVariants.{
  Place,
  Lines,
  Ticket,
  Receipt,
  Class,
  Order,
  Cycle,
  Views,
  Why,
}
use Rattle.runs.specs.declared.Failure.{Failure}
use Rattle.runs.specs.declared.Failure.TheVariants.{Refused, Fault, NoTicket}
use Rattle.runs.specs.Answers.{cues_of}
use Rattle.words.specs.Words.{spaced}
use Rattle.stage.specs.declared.faults.Expected.{Expected}
use Rattle.stage.specs.declared.faults.Expected.TheVariants as expected
use Rattle.stage.specs.declared.faults.Fault as faults

-- how a count of lines is written
abbrev pub lines_text : ℕ → List ℕ
lines_text count = if nat_eq count 1 then codes "1 line" else decimal count ++ codes " lines"

-- the call that the words say; of a sheet, how many lines stand under it
abbrev pub said_text : List ℕ → List ℕ → List ℕ
said_text words sheet =
    if bytes_eq words (codes "sheet")
    then codes "sheet of " ++ lines_text (count_by (λ b. nat_eq b 10) sheet)
    else words

-- cues with blanks between, and words where there is none
abbrev pub row_text : List ℕ → List ℕ
row_text [] = codes "no cue is committed"
row_text (cue ∷ cues) = decimal cue ++ spaced cues

abbrev pub ending_text : Ending → List ℕ
ending_text Commit = codes "commit"
ending_text Abort = codes "abort"

abbrev pub answer_text : Answer → List ℕ
answer_text (Place place) = codes "place " ++ decimal place
answer_text (Lines count) = lines_text count ++ codes " read"
answer_text (Ticket number) = codes "ticket " ++ decimal number
answer_text (Receipt place ending) =
    codes "receipt, place " ++ decimal place ++ codes ", " ++ ending_text ending
answer_text (Class class) =
    decimal (class_number class) ++ codes ", place " ++ decimal (class_place class)
answer_text (Order cues) = row_text (cues_of cues)
answer_text (Cycle cues) = codes "cycle " ++ row_text (cues_of cues)
answer_text (Views (Some cues)) = row_text (cues_of cues)
answer_text (Views None) = codes "none"
answer_text (Why (Some pair)) =
    codes "places " ++ decimal pair.first ++ codes " and " ++ decimal pair.second
answer_text (Why None) = codes "none"

abbrev pub failure_text : Failure → List ℕ
failure_text (Refused refusal) =
    codes "refused, " ++ decimal (number_of refusal) ++ codes ": " ++ words_of refusal
failure_text (Fault fault) =
    codes "fault " ++ decimal (layer_number_of fault.layer) ++ codes " in line " ++
    decimal fault.line ++ codes ": " ++ layer_words_of fault.layer
failure_text NoTicket = codes "no such ticket, or it is used up"

abbrev pub told_text : Result Answer Failure → List ℕ
told_text (Ok answer) = answer_text answer
told_text (Err failure) = failure_text failure

abbrev pub expected_text : Expected → List ℕ
expected_text expected.Call =
    codes "a call: enter, begin, record, end, sheet, class, order, views or why"
expected_text expected.Sheet = codes "the word sheet above lines with |"
expected_text expected.Cue = codes "a cue number"
expected_text expected.Ticket = codes "a ticket number"
expected_text expected.Act = codes "r, w, c or a"
expected_text expected.Step = codes "r or w"
expected_text expected.Ending = codes "c or a"
expected_text (expected.Item words) = words.now
expected_text expected.Cells = codes "a number of cells"
expected_text expected.Bytes = codes "a number of bytes"
expected_text expected.End = codes "no more words"

abbrev pub fault_text : faults.Fault → List ℕ
fault_text fault =
    codes "line " ++ decimal fault.line ++ codes ": expected " ++ expected_text fault.expected
