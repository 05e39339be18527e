-- To be believed: JSON values and how deep they go, the value that the code holds, what a line of bytes says, the text of a
-- value, what holds of each, and what contracts see of a text that is written.
pub mod Value
pub mod View
pub mod Levels
pub mod Names
pub mod Reading
pub mod OneText
pub mod Text
pub mod Sound
pub mod Output
-- These serve proofs alone: codes and sizes of values, and what the quick reader has found so far.
pub mod Code
pub mod Falls
pub mod Quick
