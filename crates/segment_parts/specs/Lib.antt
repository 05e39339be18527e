-- To be believed: the bytes of a segment part by part, which columns can be written, and which agree.
pub mod Text
pub mod Fields
pub mod Parts
pub mod Lists
pub mod Agree
-- These serve proofs alone: that bytes are the text of one thing at most, part by part, how parts are read in place, and how
-- the sentences of agreement are tested.
pub mod Once
pub mod Heads
pub mod Marks
pub mod Presents
pub mod Kept
pub mod Rows
pub mod Tails
pub mod Whole
pub mod InPlace
pub mod Passes
pub mod NumberKeys
pub mod Keyed
