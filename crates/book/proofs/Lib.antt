pub mod Cutting
pub mod Entered
pub mod Entering
pub mod Growing
pub mod Reading
pub mod ReadsIn
