-- What a reader must believe: the draws, the sources that are drawn, the lines, and what one call hands out.
pub mod Draws
pub mod Sources
pub mod Lines
pub mod Given
-- What serves proofs alone: how the generator's parts stand for the lines that are left.
pub mod Left
