-- A reader must believe Merged, which says what an update makes of a source, and Same, which says whether it leaves it as it
-- is; `is_same` of `src/` says that Same is equality. Coming serves proofs alone.
pub mod Merged
pub mod Same
pub mod Coming
