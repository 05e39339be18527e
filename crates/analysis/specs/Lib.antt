-- To be believed: the words of a text, and where their tokens stand in it.
pub mod Words
pub mod Tokens
