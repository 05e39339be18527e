-- What a reader must believe: keys with those that show them and a page of these, what rows show, and what it is to go
-- through pages.
pub mod Composite
pub mod Rows
pub mod Walk
-- Of this `bucket_of` leads from a Rust type to its mathematics and is to be believed too; the rest serves proofs alone.
pub mod Kept
pub mod Spread
