pub mod Words
pub mod WordsAreTold
