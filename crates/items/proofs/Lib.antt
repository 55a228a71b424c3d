pub mod ItemsAreTexts
