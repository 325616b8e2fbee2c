-- The laws of mark lines. `LineTexts` has the theorems, `Longest` how long a line can be, `Examples` lines that are computed.
pub mod LineTexts
pub mod Newline
pub mod Longest
pub mod Examples
