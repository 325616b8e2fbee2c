pub mod Determined
pub mod Contracts
