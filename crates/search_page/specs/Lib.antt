-- To be believed: which trees a search is asked of, and how many sources its page may cost.
pub mod Searched
-- This serves contracts of private calls alone.
pub mod Hits
