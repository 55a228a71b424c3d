pub mod Blanks
pub mod Numbers
pub mod Unbroken
pub mod NumbersAreTexts
