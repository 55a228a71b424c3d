pub mod Entered
pub mod Entering
pub mod Reading
pub mod ReadsIn
pub mod Sheets
pub mod Tickets
