-- To be believed: the blocks of an entry, of how many objects a segment is built at most (`Entries`), and of which blocks one
-- can be made (`Given`, `Form`).
pub mod Blocks
-- These serve proofs alone: in which order documents carry what they carry, how blocks are taken apart and put together
-- again by key, what makes columns that can be written, and what the columns that are made of that say.
pub mod Form
pub mod Parts
pub mod Entries
pub mod Groups
pub mod Regrouped
pub mod Members
pub mod Lists
pub mod Rising
pub mod Marks
pub mod Taken
pub mod Terms
pub mod Columns
pub mod Roots
pub mod Given
pub mod Made
pub mod ByKey
