pub mod Firsts
pub mod Twice
pub mod Rising
pub mod Partless
pub mod KnownPaths
pub mod Walked
pub mod Rooted
pub mod Examples
