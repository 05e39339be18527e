-- To be believed, in this order: which trees an index of blocks stands for, what a commit says of trees, the states that a file
-- may be opened in, and what the entries of a view are whole by.
pub mod Faithful
pub mod Content
pub mod Starting
pub mod Given
