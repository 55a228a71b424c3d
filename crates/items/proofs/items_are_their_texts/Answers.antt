use Rattle.items.proofs.ItemsAreTexts.{axes_are_their_texts, case_is_ignored, letters_are_numbered}
use Rattle.items.proofs.ItemsAreTexts.{marks_are_words, marks_are_their_texts}
use Rattle.items.proofs.items_are_their_texts.Goals as goal

pub returns : goal.returns
returns c = record {
  axes = axes_are_their_texts;
  cases = case_is_ignored;
  letters = letters_are_numbered;
  words = marks_are_words;
  marks = marks_are_their_texts;
}
