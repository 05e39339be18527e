-- What commits and openings say of the trees that an index stands for.
mod Blocks
mod Content
mod Sizes
mod Kept
mod Numbers
mod Opened
