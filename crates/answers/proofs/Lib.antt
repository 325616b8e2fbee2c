pub mod Answered
pub mod Filling
pub mod Coding
pub mod Determined
