-- To be believed: the bytes of each kind of field.
pub mod Fields
