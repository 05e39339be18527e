mod Steps
mod Lengths
mod Rows
mod Handed
