-- The words of each refusal, as people read them. Assumes nothing.
use Rattle.std.specs.Prelude.{ℕ, List, codes}
use Rattle.refusals.specs.declared.LineRefusal.{LineRefusal}
use Rattle.refusals.specs.declared.LineRefusal.TheVariants.{Shape, CueField, Letter, ItemField}
use Rattle.refusals.specs.declared.Refusal.{Refusal}
use Rattle.refusals.specs.declared.Refusal.TheVariants.{
  NoSuchCue,
  CueEnded,
  BookFull,
  CueEntered,
  ListShort,
  StripShort,
  ManyCues,
  CuePair,
  ReportShort,
  SpaceShort,
  NoSuchWinch,
}
use Rattle.refusals.specs.declared.Layer.{Layer}
use Rattle.refusals.specs.declared.Layer.TheVariants.{Line, Book}

abbrev pub line_words_of : LineRefusal → List ℕ
line_words_of Shape = codes "the line has not 15 columns"
line_words_of CueField = codes "columns 1 to 4 hold no number"
line_words_of Letter = codes "column 6 holds none of r, w, c, a, or a column beside it is not blank"
line_words_of ItemField = codes "columns 8 to 15 do not hold what the letter asks for"

abbrev pub words_of : Refusal → List ℕ
words_of NoSuchCue = codes "the cue number is outside 1 to 64"
words_of CueEnded = codes "the cue has ended"
words_of BookFull = codes "the book is full"
words_of CueEntered = codes "the cue has an entry"
words_of ListShort = codes "the list for the answer is too short"
words_of StripShort = codes "the working memory is too short"
words_of ManyCues = codes "more than 8 cues are committed"
words_of CuePair = codes "a cue number is outside 1 to 64, or the two are equal"
words_of ReportShort = codes "the space for the report is too short"
words_of SpaceShort = codes "the space for the line is too short"
words_of NoSuchWinch = codes "a winch number is outside 1 to 64"

abbrev pub layer_words_of : Layer → List ℕ
layer_words_of (Line f) = line_words_of f
layer_words_of (Book f) = words_of f
