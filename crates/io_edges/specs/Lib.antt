-- A reader must believe Faults, which says what a count of faults is, and of a test's objects in memory Calls and Memory.
-- None serves proofs alone.
pub mod Faults
pub mod Calls
pub mod Memory
