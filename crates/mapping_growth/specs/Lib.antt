-- What a reader must believe, in this order.
pub mod Fields
pub mod Relations
pub mod Bodies
-- What serves proofs alone.
pub mod Outline
pub mod Judged
pub mod Lines
pub mod Kept
