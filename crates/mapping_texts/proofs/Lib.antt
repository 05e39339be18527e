mod Levels
mod Depths
mod Texts
