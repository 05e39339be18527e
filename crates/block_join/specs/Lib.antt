-- To believe a contract of this crate, read these.
pub mod Scores
pub mod Joins
pub mod Merge
-- These serve proofs alone: how scores are kept, and what the loops keep true.
pub mod Sums
pub mod Kept
