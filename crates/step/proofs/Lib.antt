pub mod Dot
pub mod Laws
pub mod Entries
