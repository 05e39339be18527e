pub mod Dates
pub mod Digits
mod Examples
pub mod Formats
pub mod Moments
