-- To be believed: the texts of numbers, bytes and lists, and where the rows of a list stand.
pub mod Text
pub mod Places
-- These serve proofs alone: readers and numbers at the front of bytes, the laws that they undo the texts, lists whose items
-- follow one another, what a loop keeps, rows by their places, and bytes that were appended to.
pub mod Reading
pub mod Front
pub mod Reads
pub mod Order
pub mod Walks
pub mod Placed
pub mod Written
