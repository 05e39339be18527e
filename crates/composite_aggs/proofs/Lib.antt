pub mod Filling
pub mod Gathered
pub mod Histograms
pub mod Lists
pub mod Spread
pub mod Steps
pub mod Values
pub mod Walks
