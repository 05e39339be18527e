-- To be believed, in this order: what an engine keeps, what one opens with, the states that it is faithful to, the request that lines are, how many
-- sources a request may read, what it does to the file of the store, and how it is answered.
pub mod Kept
pub mod Found
pub mod Faithful
pub mod View
pub mod Reads
pub mod Storing
pub mod Answers
-- This serves contracts of private calls and proofs alone: how commands end.
pub mod Parts
