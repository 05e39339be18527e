pub mod Ascii
mod Examples
pub mod Lengths
pub mod Fewer
pub mod Placed
pub mod TokenLemmas
pub mod Walk
