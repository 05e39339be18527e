mod Examples
mod Items
mod Slots
mod Whole
