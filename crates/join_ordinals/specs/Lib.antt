-- To believe.
pub mod Ordinals
-- For proofs alone: what rows, ids and numbers are while they are made.
pub mod Rows
pub mod Numbers
