pub mod Rows
pub mod Samples
pub mod Histories
pub mod WaitLists
