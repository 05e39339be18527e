-- To be believed: when segments keep their items, and the items of a layout.
pub mod Ids
pub mod Items
