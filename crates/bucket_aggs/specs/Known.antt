-- What was evaluated for a definition, as mathematics.
pub mod Code
