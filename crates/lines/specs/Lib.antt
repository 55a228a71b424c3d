pub mod Cutting
pub mod Reading
pub mod Writing
pub mod LineIsTold
pub mod CutIsTold
pub mod WritingIsTold
