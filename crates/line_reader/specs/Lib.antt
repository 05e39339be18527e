-- A reader of the headline must believe Line, Request and Given, and of Seen what the values of the types are. View says
-- which line a Rust value is. Reading and Held serve the contracts of private calls and the proofs alone.
pub mod Line
pub mod Request
pub mod Seen
pub mod View
pub mod Given
pub mod Reading
pub mod Held
