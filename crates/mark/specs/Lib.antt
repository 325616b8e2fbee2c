pub mod Numbers
pub mod Answer
pub mod Marks
pub mod Reading
