-- To be believed: how items are laid out in segments, what is done to a layout, how few segments settling leaves, merges that
-- are asked for, and numbers that ascend.
pub mod Layout
pub mod Settled
pub mod Merges
pub mod Ascending
-- These serve proofs alone: a layout of other items.
pub mod As
