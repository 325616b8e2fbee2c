pub mod Signed
pub mod Wide
pub mod Half
pub mod Signs
