pub mod Qmf
pub mod Step
