-- What a reader must believe: the rows of a table, and which first keys the rows of a page have.
pub mod Table
pub mod Reach
-- For proofs alone: the order of rows by their indexes, and a selection of the first of them.
pub mod Spans
pub mod Shown
pub mod Indexed
