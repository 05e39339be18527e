-- To be believed: how commands end.
pub mod Ends
