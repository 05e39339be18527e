-- To believe: what was evaluated for definitions, and what a call is told.
pub mod Answers
pub mod Prepared
pub mod Kinship
pub mod Hits
pub mod Steps
-- For proofs alone: filters one behind the other, walks over documents, places and contents, and roots.
pub mod Rows
pub mod Along
pub mod Contents
pub mod Roots
