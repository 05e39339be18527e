-- To be believed: what a store knows of an index, and how its commands end.
pub mod Commands
-- These serve proofs alone: an index whose view may be committed.
pub mod Ready
