pub mod Lists
pub mod Encodes
pub mod Decodes
