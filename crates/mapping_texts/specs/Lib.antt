-- What a reader must believe: when a value is what is read of its text.
pub mod Texts
