pub mod Tables
pub mod Bounds
pub mod Fresh
pub mod SameBands
pub mod Quantise
pub mod Block4
pub mod Adapt
