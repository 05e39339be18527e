-- To believe: the objects that documents stand for, and answers over them.
pub mod Given
-- These serve proofs alone: what is evaluated once for several buckets and a code for it, the parents of roots, the scores of
-- objects however they are kept, keys with their counts, and what numbers come to.
pub mod Once
pub mod Known
pub mod Parents
pub mod Held
pub mod Counts
pub mod Columns
pub mod Sums
