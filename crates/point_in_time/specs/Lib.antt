-- To be believed: what points in time are, and what opening and closing make of them.
pub mod Points
