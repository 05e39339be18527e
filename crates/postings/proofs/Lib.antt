pub mod Entries
pub mod Lists
pub mod Places
pub mod Walks
pub mod Marked
pub mod Leaps
