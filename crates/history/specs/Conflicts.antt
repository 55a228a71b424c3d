-- Which entries conflict. Assumes nothing.
use Rattle.std.specs.Prelude.{Bool, false, not, ◌&&◌, ◌==◌}
use Rattle.history.specs.declared.Act.{Act}
use Rattle.history.specs.declared.Act.TheVariants.{Read, Write, Commit, Abort}
use Rattle.history.specs.declared.Entry.{Entry}

module _ {K : Type 0} where
  -- a read of an item that passes
  abbrev pub reads : (K → Bool) → Act K → Bool
  reads test (Read k) = test k
  reads test (Write k) = false
  reads test Commit = false
  reads test Abort = false

  -- a write of an item that passes
  abbrev pub writes : (K → Bool) → Act K → Bool
  writes test (Read k) = false
  writes test (Write k) = test k
  writes test Commit = false
  writes test Abort = false

  -- a read or a write of an item that passes
  abbrev pub touches : (K → Bool) → Act K → Bool
  touches test (Read k) = test k
  touches test (Write k) = test k
  touches test Commit = false
  touches test Abort = false

module _ {K : Type 0} (alike : K → K → Bool) where
  -- the items are the same, and one act is a write
  abbrev pub meets : Act K → Act K → Bool
  meets (Read a) y = writes (alike a) y
  meets (Write a) y = touches (alike a) y
  meets Commit y = false
  meets Abort y = false

  -- entries of different cues that do
  abbrev pub conflict : Entry K → Entry K → Bool
  conflict x y = not (x.cue == y.cue) && meets x.act y.act
