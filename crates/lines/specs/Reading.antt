-- The entry that a line says. Assumes nothing.
use Rattle.std.specs.Prelude.{ℕ, Bool, true, false, cond, List, [], ◌∷◌, Some, None, Ok, Err, Option, Result, ◌==◌, slice_index}
use Rattle.refusals.specs.declared.LineRefusal.{LineRefusal}
use Rattle.refusals.specs.declared.LineRefusal.TheVariants.{Shape, CueField, Letter, ItemField}
use Rattle.history.specs.declared.Act.{Act}
use Rattle.history.specs.declared.Act.TheVariants.{Read, Write, Commit, Abort}
use Rattle.history.specs.declared.Entry.{Entry}
use Rattle.columns.specs.Columns.{after_blanks, number}
use Rattle.lines.specs.Cutting.{CutLine, whole, line_cut}

abbrev none : List ℕ → Bool
none [] = true
none (b ∷ bs) = false

-- nothing but blanks
abbrev pub blank : List ℕ → Bool
blank bs = none (after_blanks bs)

module _ {K : Type 0} where
  -- an act on the item that was read
  abbrev pub on_item : (K → Act K) → Option K → Result (Act K) LineRefusal
  on_item act (Some k) = Ok (act k)
  on_item act None = Err ItemField

  -- an act with no item
  abbrev pub on_none : Act K → List ℕ → Result (Act K) LineRefusal
  on_none act field = cond (blank field) (Ok act) (Err ItemField)

  abbrev pub of_cue : ℕ → Result (Act K) LineRefusal → Result (Entry K) LineRefusal
  of_cue n (Ok act) = Ok (record { cue = n; act = act })
  of_cue n (Err e) = Err e

module _ {K : Type 0} (parsed : List ℕ → Option K) where
  -- the act of a letter (r, w, c or a) and an item field
  abbrev pub act_in : ℕ → List ℕ → Result (Act K) LineRefusal
  act_in letter field =
      cond (letter == 114) (on_item Read (parsed field)) (cond (letter == 119) (on_item Write (parsed field)) (cond (letter == 99) (on_none Commit field) (cond (letter == 97) (on_none Abort field) (Err Letter))))

  abbrev pub after_cue : CutLine → Option ℕ → Result (Entry K) LineRefusal
  after_cue l None = Err CueField
  after_cue l (Some n) = cond l.spaced (of_cue n (act_in (slice_index l.letter.bytes 0) l.item.bytes)) (Err Letter)

  -- the entry that the fields of a line say, or the first refusal that is met
  abbrev pub entry_in : CutLine → Result (Entry K) LineRefusal
  entry_in l = after_cue l (number l.cue.bytes)

  abbrev pub line_in : List ℕ → Result (Entry K) LineRefusal
  line_in bs = cond (whole bs) (entry_in (line_cut bs)) (Err Shape)

  abbrev pub some : Result (Entry K) LineRefusal → Result (Option (Entry K)) LineRefusal
  some (Ok e) = Ok (Some e)
  some (Err f) = Err f

  -- the first line of what remains of a sheet, or the end
  abbrev pub next_in : List ℕ → Result (Option (Entry K)) LineRefusal
  next_in [] = Ok None
  next_in (b ∷ bs) = some (line_in (b ∷ bs))
