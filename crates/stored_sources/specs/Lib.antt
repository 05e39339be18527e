-- To be believed: what is stored of a root, its text, and where roots stand.
pub mod Roots
pub mod Text
pub mod Stands
-- These serve proofs alone: how roots are read in place, and readers that undo their text.
pub mod Reading
pub mod Kept
pub mod Lent
pub mod Old
