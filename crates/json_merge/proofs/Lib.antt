pub mod Sizes
pub mod Firsts
pub mod Merging
pub mod Under
mod Levels
pub mod Equal
mod Examples
