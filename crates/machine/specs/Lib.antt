-- To be believed, in this order: the states, what an answer is, the limits, what each command does, one step, what a request
-- may be answered, and what doesn't depend on the layout or on the store.
pub mod State
pub mod Answer
pub mod Limit
pub mod MappingLine
pub mod Write
pub mod Searching
pub mod Points
pub mod Merging
pub mod Storing
pub mod Step
pub mod May
pub mod Beside
