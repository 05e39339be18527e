pub mod Refusals
pub mod Updates
pub mod Planning
