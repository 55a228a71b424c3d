-- The steps of reading a line. Assumes nothing.
use Rattle.std.proofs.Common.{◌≡◌, ℕ, Bool, true, false, cond, List, [], ◌∷◌, get_or, Some, None, Ok, Err, Option, Result, refl, ap, ◌∙◌, arith}
use Rattle.std.specs.Option.{ok_or}
use Rattle.refusals.specs.declared.LineRefusal.{LineRefusal}
use Rattle.refusals.specs.declared.LineRefusal.TheVariants.{Shape, CueField, Letter}
use Rattle.history.specs.declared.Act.{Act}
use Rattle.history.specs.declared.Entry.{Entry}
use Rattle.columns.specs.Columns.{number}
use Rattle.lines.specs.Cutting.{CutLine, whole, line_cut, cut_of}
use Rattle.lines.specs.Reading.{of_cue, act_in, after_cue, entry_in, some, next_in}

module _ {K : Type 0} (parsed : List ℕ → Option K) (l : CutLine) where
  no_cue : (o : Option ℕ) (f : LineRefusal) → ok_or o CueField ≡ Err f → after_cue parsed l o ≡ Err f
  no_cue None f e = let is : CueField ≡ f = cc in ap Err is
  no_cue (Some n) f e = absurd (let z : ◌≡◌ {A = ℕ} 0 1 = cc in omega arith)

  with_cue : (o : Option ℕ) (n : ℕ) → ok_or {E = LineRefusal} o CueField ≡ Ok n → o ≡ Some n
  with_cue None n e = absurd (let z : ◌≡◌ {A = ℕ} 0 1 = cc in omega arith)
  with_cue (Some m) n e = let is : m ≡ n = cc in ap Some is

  -- no number in the cue field
  pub entry_no_cue : (f : LineRefusal) → ok_or (number l.cue.bytes) CueField ≡ Err f → entry_in parsed l ≡ Err f
  entry_no_cue f e = no_cue (number l.cue.bytes) f e

  -- a number there, and a blank on both sides of the letter
  pub entry_with_cue : (n : ℕ) (r : Result (Act K) LineRefusal) → ok_or (number l.cue.bytes) CueField ≡ Ok n → l.spaced ≡ true → act_in parsed (get_or l.letter.bytes 0 0) l.item.bytes ≡ r → entry_in parsed l ≡ of_cue n r
  entry_with_cue n r e s a =
      ap (after_cue parsed l) (with_cue (number l.cue.bytes) n e)
      ∙ (λ i. cond (s i) (of_cue n (a i)) (Err Letter))

module _ {K : Type 0} (parsed : List ℕ → Option K) where
  -- what follows from the line that was cut, or from the end
  abbrev next_of : Result (Option CutLine) LineRefusal → Result (Option (Entry K)) LineRefusal
  next_of (Ok None) = Ok None
  next_of (Ok (Some l)) = some parsed (entry_in parsed l)
  next_of (Err f) = Err f

  next_cond : (t : Bool) (l : CutLine) → some parsed (cond t (entry_in parsed l) (Err Shape)) ≡ next_of (cond t (Ok (Some l)) (Err Shape))
  next_cond true l = refl
  next_cond false l = refl

  next_of_lem : (bs : List ℕ) → next_in parsed bs ≡ next_of (cut_of bs)
  next_of_lem [] = refl
  next_of_lem (b ∷ bs) = next_cond (whole (b ∷ bs)) (line_cut (b ∷ bs))

  pub next_end : (bs : List ℕ) → cut_of bs ≡ Ok None → next_in parsed bs ≡ Ok None
  next_end bs e = next_of_lem bs ∙ ap next_of e

  pub next_bad : (bs : List ℕ) (f : LineRefusal) → cut_of bs ≡ Err f → next_in parsed bs ≡ Err f
  next_bad bs f e = next_of_lem bs ∙ ap next_of e

  pub next_line : (bs : List ℕ) (l : CutLine) (r : Result (Entry K) LineRefusal) → cut_of bs ≡ Ok (Some l) → entry_in parsed l ≡ r → next_in parsed bs ≡ some parsed r
  next_line bs l r e is = next_of_lem bs ∙ ap next_of e ∙ ap (some parsed) is
