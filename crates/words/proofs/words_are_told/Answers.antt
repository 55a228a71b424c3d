use Rattle.words.proofs.WordsAreTold.{word_is_told, spaced_is_told}
use Rattle.words.proofs.words_are_told.Goals as goal

pub returns : goal.returns
returns g c = record { item = word_is_told g.K.Item.parsed; numbers = spaced_is_told }
