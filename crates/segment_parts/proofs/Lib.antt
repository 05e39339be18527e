mod Listed
mod Loops
mod Numbered
mod Searches
