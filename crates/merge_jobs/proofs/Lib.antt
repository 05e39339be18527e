pub mod Keyed
pub mod Later
pub mod LiveRoots
pub mod Moved
