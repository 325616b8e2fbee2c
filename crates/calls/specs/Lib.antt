pub mod G722
pub mod Answers
