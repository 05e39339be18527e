-- What a reader must believe, in this order.
pub mod Names
pub mod Body
pub mod Pairs
-- What serves proofs alone.
pub mod Code
pub mod Order
pub mod Kept
