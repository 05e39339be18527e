-- To be believed: the moment that a date names.
pub mod Moment
