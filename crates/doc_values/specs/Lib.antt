-- To be believed: the values of documents, rows of one value each, a column's text, and where a column stands.
pub mod Values
pub mod Single
pub mod Text
pub mod Stands
-- These serve proofs alone: how a column is read in place, and readers that undo its text.
pub mod Kept
pub mod Reading
