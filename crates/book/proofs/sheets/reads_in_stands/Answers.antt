use Rattle.std.proofs.Common.{sym, subst}
use Rattle.book.specs.ReadsIn.{ReadsIn}
use Rattle.book.proofs.ReadsIn.{reads_in_lem, reads_in_only}
use Rattle.book.proofs.sheets.reads_in_stands.Goals as goal

pub returns : goal.returns
returns g c =
    let parsed = g.K.Item.parsed in
    λ places es sheet t. (
      λ h. reads_in_only parsed places es sheet t h,
      λ e. subst (ReadsIn parsed places es sheet) (sym e) (reads_in_lem parsed places es sheet),
    )
