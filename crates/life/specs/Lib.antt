pub mod Kind
pub mod Life
pub mod Unbroken
