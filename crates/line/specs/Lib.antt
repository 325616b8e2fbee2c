-- What a mark line is as text, and what reading one gives.
pub mod Letters
pub mod Line
pub mod Bounds
