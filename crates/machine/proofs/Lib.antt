-- What stays true of states: the layout keeps the live trees, these stay numbered, points in time keep theirs. Merge commands on
-- layouts of any items. What commits keep. What doesn't depend on the layout and on the store. Worked runs.
pub mod Merged
pub mod Steps
pub mod Laid
pub mod Storing
pub mod Named
pub mod Numbered
pub mod Pointed
pub mod Beside
mod Rows
