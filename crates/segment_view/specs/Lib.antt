-- To be believed: what a view is, and what a delete and a replacement make of it.
pub mod Views
