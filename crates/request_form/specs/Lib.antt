-- To be believed, in this order: the names that objects have, when an object has them, what a first line says, and what a
-- request asks for.
pub mod Table
pub mod Form
pub mod Command
pub mod Asked
-- what holds of every write that is asked for
pub mod Formed
-- These serve contracts of private calls and proofs alone: how the Rust types are seen.
pub mod Seen
