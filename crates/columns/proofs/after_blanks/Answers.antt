use Rattle.std.proofs.Common.{ℕ, drop, ap, ◌∙◌}
use Rattle.std.proofs.lemmas.List.{take_rest}
use Rattle.columns.proofs.Blanks.{drop_blanks}
use Rattle.columns.proofs.after_blanks.Goals as goal

pub returns : goal.returns
returns c =
    let bs = c.args.field.now in
    take_rest bs _ ∙ ap (λ (n : ℕ). drop n bs) c.leading_blanks.ensures.count ∙ drop_blanks bs
