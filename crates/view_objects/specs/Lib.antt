-- To believe.
pub mod Hits
pub mod Values
