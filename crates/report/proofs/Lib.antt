pub mod Bounds
pub mod Writing
pub mod Lengths
pub mod Showing
pub mod Reading
