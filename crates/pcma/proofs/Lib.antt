pub mod Stored
pub mod RoundTrip
pub mod Determined
