-- What a reader must believe, in this order: the filters of a sort, the rows of what was found, and the keys of documents in
-- any order.
pub mod Filters
pub mod Keyed
pub mod Listed
-- For proofs alone: the documents inside a document, the keys by documents, the best of values, and the hits that a page
-- can show.
pub mod Inside
pub mod Documents
pub mod Best
pub mod Reached
pub mod Near
