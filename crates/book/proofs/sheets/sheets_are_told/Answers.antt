use Rattle.book.proofs.Cutting.{sheets_are_lines, faults_stand, counts_stand, entries_stay}
use Rattle.book.proofs.sheets.sheets_are_told.Goals as goal

pub returns : goal.returns
returns g c =
    let parsed = g.K.Item.parsed in
    record { lines = sheets_are_lines; faults = faults_stand parsed; counts = counts_stand parsed; stay = entries_stay parsed }
