pub mod Symbols
pub mod Columns
pub mod NumbersAreTexts
