-- To be believed: bytes that stand at a place of a file, the header of a store, and the record of a commit.
pub mod Pieces
pub mod Header
pub mod Read
pub mod Record
-- These serve proofs alone: reading a record from left to right, with the laws that this undoes its text.
pub mod Reading
