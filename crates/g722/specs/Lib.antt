pub mod Session
pub mod Encoding
pub mod Decoding
