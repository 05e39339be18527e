-- To believe, in this order: names, the walk, and what is refused.
pub mod Kinds
pub mod Names
pub mod Sorts
pub mod After
pub mod Node
pub mod Fault
pub mod Refusal
-- For proofs alone: what a node of the code is and what a walk keeps, what a refusal says, and where the walk ends early.
pub mod View
pub mod Walk
pub mod IsFirst
pub mod Parts
