use Rattle.std.proofs.Common.{◌≡◌, ℕ, List, length, Option, sym, ap, ◌∙◌, subst, arith}
use Rattle.std.specs.Option.{ok_or}
use Rattle.refusals.specs.declared.LineRefusal.TheVariants.{CueField}
use Rattle.columns.specs.Columns.{number}
use Rattle.columns.proofs.Numbers.{number_fits}
use Rattle.lines.specs.declared.cuts.Field.{Field}
use Rattle.lines.specs.Cutting.{seen}
use Rattle.lines.proofs.reads.Line.cue.Goals as goal

pub returns-in-Digits : goal.returns-in-Digits
returns-in-Digits c =
    let bs = c.in-Digits.part.bytes.now in
    let same : (seen c.args.self.fields.cue).bytes ≡ bs = ap (λ (f : Field). (seen f).bytes) c.in-Digits.is in
    let four : length bs ≡ 4 = subst (λ (xs : List ℕ). length xs ≡ 4) same c.args.self.well.cue_wide in
    c.ok_or.ensures.value
    ∙ ap (λ (o : Option ℕ). ok_or o CueField) (c.read_number.ensures ∙ number_fits 4 bs (omega arith) ∙ ap number (sym same))
