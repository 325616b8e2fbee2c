pub mod Calls
pub mod Encoding
pub mod Decoding
pub mod Lines
pub mod Claims
