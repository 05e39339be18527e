pub mod Numbering
pub mod Grouping
pub mod Renumbering
