pub mod Alive
pub mod Ways
pub mod Summaries
