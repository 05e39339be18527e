-- What a reader must believe, in this order.
pub mod Tree
pub mod Object
pub mod Values
pub mod Fault
pub mod Enclosing
