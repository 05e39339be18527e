-- What a reader must believe, in the order in which to read it: what a search and its answer are ..
pub mod Clause
pub mod Definition
pub mod Inner
pub mod Agg
pub mod Pages
pub mod Replies
-- .. what it means ..
pub mod Compare
pub mod Joined
pub mod Leaf
pub mod Hit
pub mod SortKey
pub mod Page
pub mod Rows
pub mod InnerHits
pub mod Buckets
pub mod Search
pub mod Joins
-- .. and what holds of a search that was read. Of the folders, each `View` leads from a Rust type to its mathematics and
-- is to be believed too; each `Code` and `Falls` serves proofs alone.
pub mod Uses
pub mod Resolved
