pub mod Lookups
pub mod Numbers
pub mod Entries
pub mod Kept
pub mod Found
pub mod Singles
