-- To be believed: which sources are read back as they were written. When a mapping can have made a segment is `SegmentFits` of
-- the crate `flattener`.
pub mod Sources
-- This serves proofs alone: what is tested of a segment, part by part.
pub mod Tested
