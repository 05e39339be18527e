pub mod Each
pub mod Blocks
pub mod Up
pub mod Down
pub mod Trees
pub mod Parted
