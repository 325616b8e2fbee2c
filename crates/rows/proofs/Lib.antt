pub mod Texts
pub mod Pieces
pub mod Whole
pub mod Stops
pub mod Determined
pub mod Writing
