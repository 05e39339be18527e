-- To believe: the tables of forms, and what it is to have one.
pub mod Table
pub mod Form
pub mod Texts
-- For proofs alone: what a shape keeps, and sizes and lengths of JSON values.
pub mod Shape
pub mod Sizes
pub mod Lengths
