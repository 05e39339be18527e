-- To believe a contract of this crate, read these.
pub mod Flags
pub mod Places
pub mod Words
pub mod Walks
pub mod Scopes
pub mod Blocks
pub mod Seen
-- This serves proofs alone: documents counted.
pub mod OneScope
