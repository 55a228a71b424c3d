pub mod FirstPair
pub mod Kept
pub mod Lasting
pub mod Drawing
pub mod Answered
pub mod Cells
