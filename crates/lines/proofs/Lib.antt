pub mod Cutting
pub mod Reading
pub mod RoundTrip
pub mod Writing
pub mod LineIsTold
pub mod CutIsTold
pub mod WritingIsTold
