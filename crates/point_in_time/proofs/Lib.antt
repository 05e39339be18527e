-- Ids as the keys of a map.
pub mod Ids
