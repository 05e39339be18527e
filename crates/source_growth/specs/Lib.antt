-- What a reader must believe.
pub mod Growth
pub mod Said
-- What serves proofs alone.
pub mod Code
pub mod Forms
pub mod Falls
