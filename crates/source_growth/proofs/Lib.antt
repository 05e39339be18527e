pub mod Puts
pub mod Sizes
mod Examples
pub mod Sound
pub mod Taken
pub mod Said
