-- A reader must believe Memory, what a write leaves of a file, and Stops, what a stop may leave; of the disk in memory also
-- Record, its record of calls and what that makes of content and images, and Choices, which image a list of choices names.
-- These serve proofs alone: Torn and Moments, which crates above cite, and Replay.
pub mod Memory
pub mod Stops
pub mod Torn
pub mod Moments
pub mod Record
pub mod Choices
pub mod Replay
