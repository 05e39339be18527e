-- These serve proofs alone: what the columns of a merged segment are (`Merged`), and what its text is made of. What the live
-- blocks of an entry are is said in `segment_builder`.
pub mod Merged
pub mod Lists
pub mod Numbering
pub mod Pieces
pub mod ByField
pub mod Scoped
pub mod TermRefs
pub mod Mergeable
