use Rattle.std.proofs.Common.{◌≡◌, ◌≤◌, drop}
use Rattle.items.specs.WordsLemmas.{letters_from, most}
use Rattle.items.proofs.word_number.Given as goal

abbrev pub invariant-loop-byte : goal.invariant-loop-byte
invariant-loop-byte l = (letters_from l.number (drop l.byte-index l.word) ≡ letters_from 0 l.word) × (l.number ≤ most l.byte-index)
