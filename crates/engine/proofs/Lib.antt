-- Blocks stand for trees; replies and want of memory; sealing; items that stay, and what a store knows of them; writes, and the
-- sources of updates; mapping lines; searches; what holds whatever the state; points in time; merges and rows; what isn't asked
-- of the store; what is asked for; commits, compactions and trims; and the names of inner hits.
pub mod Standing
pub mod Answering
pub mod Sealing
pub mod Items
pub mod Known
pub mod Writing
pub mod Taking
pub mod Updating
pub mod Lines
pub mod Finding
pub mod Keeping
pub mod Leaving
pub mod Ending
pub mod Pages
pub mod Pointing
pub mod Opening
pub mod Merging
pub mod Plain
pub mod Asking
pub mod Committing
pub mod Naming
