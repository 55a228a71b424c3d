pub mod Breaks
pub mod Classes
pub mod Endings
pub mod ReadsFrom
pub mod Laws
pub mod Rules
