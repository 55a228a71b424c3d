-- What a run wants more of, in words. Assumes nothing.
use Rattle.std.specs.Prelude.{ℕ, List, codes}
use Rattle.runs.specs.declared.Want.{Want}
use Rattle.runs.specs.declared.Want.TheVariants.{Answers, Tickets}

abbrev pub want_words : Want → List ℕ
want_words Answers = codes "nothing is performed: there is not a cell for each answer"
want_words Tickets =
    codes "nothing is performed: there is not a cell for a ticket for each call"
