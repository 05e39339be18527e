-- To be believed: what calls that only look leave and read, what the beginning of a file says, what bytes behind it give, which
-- entries and records a commit has, and what opening gives.
pub mod Looking
pub mod Beginning
pub mod Read
pub mod Segments
pub mod Entries
pub mod Opening
-- These serve proofs alone: what is tested of blocks, root by root, and what was read of a file.
pub mod Blocks
pub mod Shown
