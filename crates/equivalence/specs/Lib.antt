pub mod Laws
pub mod Constraints
pub mod Extending
pub mod Sources
