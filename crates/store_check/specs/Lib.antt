-- What a reader must believe: when a segment is that of its sources.
pub mod Held
-- What serves proofs alone: the one tree that a root may be of.
pub mod Made
