mod Digits
pub mod Escapes
pub mod Sizes
pub mod Halves
pub mod Fronts
pub mod Readings
pub mod Insertion
pub mod SoFar
pub mod Tokens
pub mod AsData
pub mod RoundTrip
mod FewLevels
mod OneTexts
