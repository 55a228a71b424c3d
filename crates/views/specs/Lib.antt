pub mod Answer
pub mod RefusalLaws
pub mod Ranks
pub mod Tables
pub mod Noted
pub mod Shown
