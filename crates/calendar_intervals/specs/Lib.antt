-- To be believed: where days, months and years begin. The last part of `Starts`, from `IsNumberOf` on, serves proofs alone.
pub mod Starts
