pub mod Rates
pub mod Runs
