pub mod Bytes
pub mod Lent
