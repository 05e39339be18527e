-- To be believed: what runs say of a layout.
pub mod Runs
-- These serve proofs alone: settling from the counts, which the law `layouts_settle_by_runs` ties to a layout's settling.
pub mod Policy
