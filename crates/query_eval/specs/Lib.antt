-- To believe: what a query finds in a view, how much that is, and which roots are joined by their keys (`key_at` in `Sides`, and `Meeting`).
pub mod Found
pub mod Counted
pub mod Lent
pub mod Meeting
-- Of these `paired_by`, `below_by`, `around_by`, `children_by` and `by_relation` are to be believed with it: what the calls
-- beside `matches` give. The rest serves proofs alone: scores that are put together clause by clause, and the documents of
-- scopes.
pub mod Folds
pub mod Nested
pub mod Tallies
pub mod Sides
-- Of this `AreChildRoots`, `AreParentRoots` and `any_child_by` are to be believed: all roots of one side of a join, by ascending
-- keys, and the roots that have a child. The rest serves proofs alone.
pub mod Keyed
