-- What a decimal number and a list of fields are as text, and what reading them gives.
pub mod Ascii
pub mod Newline
pub mod Number
pub mod Fields
