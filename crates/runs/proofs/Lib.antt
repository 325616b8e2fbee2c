pub mod RateLaws
pub mod Pairs
pub mod Loops
pub mod Cut
pub mod Sound
pub mod Agree
