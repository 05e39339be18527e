-- To be believed: what a commit says and when it is good, what a store knows of its last commit and once a file was opened, what
-- a commit that is prepared is, and what a move makes of it, and what the calls of a store leave.
pub mod Saying
pub mod Known
pub mod Opened
pub mod Preparing
pub mod Moving
pub mod Stepping
pub mod Refusals
-- These serve proofs alone: a commit that is prepared by its fields, its record, how room is found for it, and what of it is
-- written.
pub mod Planned
pub mod Rows
pub mod Placed
pub mod Ready
