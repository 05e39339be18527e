-- To be believed: what an index keeps, what a write makes of it, and why a merge call is refused.
pub mod Kept
pub mod Write
pub mod Merge
-- These serve proofs alone: what is looked up by number and by id, and what an index keeps by its fields.
pub mod Found
pub mod Inside
