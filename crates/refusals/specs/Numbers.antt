-- The number of each refusal, as callers and printed faults know it. Assumes nothing.
use Rattle.std.specs.Prelude.{ℕ}
use Rattle.refusals.specs.declared.LineRefusal.{LineRefusal}
use Rattle.refusals.specs.declared.LineRefusal.TheVariants.{Shape, CueField, Letter, ItemField}
use Rattle.refusals.specs.declared.Refusal.{Refusal}
use Rattle.refusals.specs.declared.Refusal.TheVariants.{NoSuchCue, CueEnded, BookFull, CueEntered, ListShort, StripShort, ManyCues, CuePair, ReportShort, SpaceShort, NoSuchWinch}
use Rattle.refusals.specs.declared.Layer.{Layer}
use Rattle.refusals.specs.declared.Layer.TheVariants.{Line, Book}

abbrev pub line_number_of : LineRefusal → ℕ
line_number_of Shape = 1
line_number_of CueField = 2
line_number_of Letter = 3
line_number_of ItemField = 4

abbrev pub number_of : Refusal → ℕ
number_of NoSuchCue = 11
number_of CueEnded = 12
number_of BookFull = 13
number_of CueEntered = 14
number_of ListShort = 21
number_of StripShort = 22
number_of ManyCues = 23
number_of CuePair = 24
number_of ReportShort = 25
number_of SpaceShort = 26
number_of NoSuchWinch = 31

abbrev pub layer_number_of : Layer → ℕ
layer_number_of (Line f) = line_number_of f
layer_number_of (Book f) = number_of f
