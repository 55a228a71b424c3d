pub mod Why
pub mod OrderAnswer
pub mod RefusalLaws
pub mod Drawn
