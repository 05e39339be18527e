-- To believe, in this order.
pub mod Readings
pub mod Queries
pub mod Sorts
pub mod InnerHits
pub mod Buckets
pub mod Search
-- For proofs alone.
pub mod Known
pub mod Flat
