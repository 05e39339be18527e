-- How long replies are, that the view may be committed, what stays known, and what a stop leaves.
pub mod Short
pub mod Sealed
pub mod Known
pub mod Images
pub mod Ending
