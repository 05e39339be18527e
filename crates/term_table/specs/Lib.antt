-- To be believed: terms and their order, postings, the text of terms with their postings and where they stand in bytes, and
-- the terms that a range takes in, and the keys of numbers.
pub mod Terms
pub mod Postings
pub mod Part
pub mod Ranges
pub mod Keys
-- These serve proofs alone: how a table is read from bytes and places, and how the text is read.
pub mod Kept
pub mod Reading
pub mod Laws
pub mod Stands
