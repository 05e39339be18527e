-- What a reader must believe, in this order.
pub mod Flat
pub mod Block
pub mod StandsFor
pub mod Fits
pub mod Small
pub mod Seen
-- What serves proofs alone.
pub mod Walked
pub mod Adds
pub mod Named
pub mod Placing
