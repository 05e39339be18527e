-- To believe.
pub mod Seen
