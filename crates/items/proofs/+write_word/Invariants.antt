use Rattle.std.proofs.Common.{length}
use Rattle.items.proofs.+write_word.Given as goal

abbrev pub decreases-write_word : goal.decreases-write_word
decreases-write_word l = length l.field.now
