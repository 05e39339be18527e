pub mod Keeping
pub mod Items
