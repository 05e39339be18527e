-- To be believed: what a commit that moves segments leaves of a store.
pub mod Compacting
-- These serve proofs alone: which segments of a commit that is prepared are offered a place nearer to the front.
pub mod Moves
