-- To be believed: what an update makes of a live source, what is put by a source, and what a further mapping line leaves.
pub mod Update
pub mod Planned
pub mod Settled
-- It serves contracts of private calls alone: why a body is not taken.
pub mod Refused
