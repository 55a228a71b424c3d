use Rattle.columns.proofs.NumbersAreTexts.{digits_and_letters, texts_are_justified}
use Rattle.columns.proofs.NumbersAreTexts.{numbers_are_their_texts}
use Rattle.columns.proofs.numbers_are_their_texts.Goals as goal

pub returns : goal.returns
returns c = record {
  symbols = digits_and_letters;
  texts = texts_are_justified;
  numbers = numbers_are_their_texts;
}
