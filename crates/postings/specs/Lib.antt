-- To be believed: a cursor's place among postings, the documents that a set has besides, and which lists have positions.
pub mod Postings
pub mod Marks
-- These serve proofs alone: how lists are read from bytes and places, the search in entries of one width, entries that a
-- cursor leaps to, and lists that stand behind their terms.
pub mod Kept
pub mod Search
pub mod Skips
pub mod Stands
