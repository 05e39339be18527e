pub mod Climbs
pub mod Pairs
pub mod Drafts
pub mod Adding
pub mod Counted
pub mod Fitting
pub mod Distinct
pub mod Keeping
pub mod Conflicts
pub mod Founding
pub mod Generations
mod Examples
