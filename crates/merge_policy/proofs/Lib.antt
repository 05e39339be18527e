-- Runs beside a layout, places of open merges, steps and passes of settling, and the bound.
pub mod Standing
pub mod Places
pub mod Steps
pub mod Passes
pub mod Bounds
pub mod Counting
pub mod Apart
