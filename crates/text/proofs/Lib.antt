-- The laws of numbers and fields as text. `NumberTexts` and `FieldTexts` have the theorems.
pub mod Tests
pub mod Buffer
pub mod Digits
pub mod Scan
pub mod NumberTexts
pub mod Signed
pub mod FieldTexts
pub mod Newline
