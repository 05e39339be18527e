mod Once
pub mod Old
mod Told
