pub mod Fronts
pub mod Cuts
pub mod Progress
pub mod LineReads
pub mod Filling
pub mod Asking
pub mod Giving
