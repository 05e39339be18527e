-- To be believed: what a job keeps, which entries it can be finished on, and the merges that are open with their jobs.
pub mod Job
pub mod Open
pub mod Made
