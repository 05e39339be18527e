-- A reader must believe Commits, what a file holds and when it shows a commit; Keeping, what is kept of all images; Steps, what a
-- step leaves and what a stop on the way shows; and Writes, several writes as one.
-- These serve proofs alone: Standing and Known, laws of one image; Written, of several writes; Going, of the steps, which crates
-- above cite; and Once, that a file shows one commit at most.
pub mod Commits
pub mod Keeping
pub mod Steps
pub mod Writes
pub mod Standing
pub mod Known
pub mod Written
pub mod Going
pub mod Once
