pub mod By
pub mod Committed
pub mod Cues
pub mod Endings
pub mod Keeping
pub mod Marks
pub mod Places
