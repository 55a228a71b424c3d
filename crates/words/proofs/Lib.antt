pub mod WordsAreTold
