-- What a reader must believe, in this order.
pub mod Mapping
pub mod IsMapping
pub mod Reached
pub mod Growth
-- What serves proofs alone.
pub mod Code
pub mod Stored
