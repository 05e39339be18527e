-- To be believed: scores and their modes, and whole numbers with a sign.
pub mod Scores
pub mod Integers
-- This serves proofs alone: laws of scores that come one by one.
pub mod Running
