mod Examples
pub mod Next
pub mod Flat
pub mod Commas
pub mod HitLines
pub mod BucketLines
pub mod LinePieces
pub mod Weights
