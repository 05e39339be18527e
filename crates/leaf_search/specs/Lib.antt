-- What a reader must believe: which documents a leaf finds. It says so by objects and by `query_ast`'s meaning of leaves.
pub mod Found
-- and the documents of a set that may be lent
pub mod Lent
-- These serve proofs alone: what a leaf asks of the terms, the words and the roots of a segment, and how sets are made.
pub mod Keys
pub mod Sets
pub mod Words
pub mod Values
pub mod Roots
pub mod Cursors
pub mod Patterns
pub mod Kept
pub mod Ids
