pub mod Numbers
pub mod Begun
pub mod Coded
pub mod Answers
pub mod Determined
