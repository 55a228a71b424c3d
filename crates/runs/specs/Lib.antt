pub mod Answers
pub mod Holding
pub mod Laws
pub mod Runs
pub mod Wants
