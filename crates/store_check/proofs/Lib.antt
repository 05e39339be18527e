mod Lists
mod Groups
mod Columns
mod Trees
mod Rows
mod Marked
mod Counts
mod Compared
