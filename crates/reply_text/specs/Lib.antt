-- A reader must believe Object, Refusal, Layout, HitTexts, BucketTexts, Printed, Text and Weight. The others serve proofs alone.
pub mod Object
pub mod Refusal
pub mod Layout
pub mod HitTexts
pub mod BucketTexts
pub mod Text
pub mod Printed
pub mod Weight
pub mod Field
pub mod Next
pub mod HitParts
pub mod BucketParts
pub mod LineParts
