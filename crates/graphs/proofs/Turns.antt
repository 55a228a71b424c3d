-- One turn of a loop over the rows of a wait list. Assumes nothing.
use Rattle.std.proofs.Common.{◌≡◌, ℕ, ◌+◌, ◌<◌, Bool, true, false, List, length, get_or, drop}
use Rattle.std.proofs.lemmas.List.{get_or_default}
use Rattle.lists.specs.Lists.{some, every}
use Rattle.lists.proofs.Steps.{some_yes, some_no, every_yes, every_no}
use Rattle.graphs.specs.declared.waits.Wait.{Wait}

-- the row with index i
abbrev pub row_at : List Wait → ℕ → Wait
row_at rows i = get_or rows i (record { winch = 0; awaited = 0 })

module _ (test : Wait → Bool) (rows : List Wait) (i : ℕ) (within : i < length rows) where
  read : row_at rows i ≡ get_or rows i (row_at rows i)
  read = get_or_default rows i (record { winch = 0; awaited = 0 }) (row_at rows i) within

  pub some_here : test (row_at rows i) ≡ true → some test (drop i rows) ≡ true
  some_here t = some_yes test rows i (row_at rows i) within read t

  pub some_on : test (row_at rows i) ≡ false → some test (drop (i + 1) rows) ≡ some test (drop i rows)
  some_on t = some_no test rows i (row_at rows i) within read t

  pub every_not : test (row_at rows i) ≡ false → every test (drop i rows) ≡ false
  every_not t = every_no test rows i (row_at rows i) within read t

  pub every_on : test (row_at rows i) ≡ true → every test (drop (i + 1) rows) ≡ every test (drop i rows)
  every_on t = every_yes test rows i (row_at rows i) within read t
