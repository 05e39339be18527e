-- How merge commands end, by what a merge call answers, and how long replies are.
pub mod Ending
pub mod Short
