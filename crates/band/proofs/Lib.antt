pub mod Boxes
pub mod First
pub mod Scale
pub mod Poles
pub mod Kept
pub mod Codes
pub mod Totals
