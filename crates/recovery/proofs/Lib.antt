pub mod BreakLaws
pub mod ByPlaces
pub mod ClassLaws
pub mod Numbers
pub mod Sources
pub mod Tables
pub mod Searches
pub mod Acts
