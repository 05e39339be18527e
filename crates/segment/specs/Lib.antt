-- To be believed: of `segment_parts` the bytes of a segment part by part, which columns can be written and which agree; here
-- which bytes are a segment, today and before mappings grew, what the columns say of documents, roots and live bits, and what
-- a document shows.
pub use Rattle.segment_parts.specs.Text
pub use Rattle.segment_parts.specs.Fields
pub use Rattle.segment_parts.specs.Parts
pub use Rattle.segment_parts.specs.Lists
pub use Rattle.segment_parts.specs.Agree
pub mod Roots
pub mod Encoding
pub mod Old
pub mod Flat
pub mod Shows
pub mod Live
-- These serve proofs alone.
pub use Rattle.segment_parts.specs.Marks
pub mod Ids
pub mod Kinds
pub mod Renewals
pub mod Segments
