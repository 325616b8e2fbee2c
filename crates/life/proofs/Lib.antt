pub mod Laws
pub mod Unbroken
pub mod Weak
