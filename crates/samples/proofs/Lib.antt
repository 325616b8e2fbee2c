pub mod Cond
pub mod Words
pub mod Bytes
pub mod Determined
