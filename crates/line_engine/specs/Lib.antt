-- A reader of the headline must believe Run, Turns and Stopping, and what they lead to: the crate `machine`, Word, and below this
-- crate the files that `docs/DEFINITIONS.md` names; of the words `check`, `make` and `run-made` besides Printing. Exit has the numbers
-- of the statuses. Served, Jobs, Checked, Made and Counted serve the contracts of private calls and the proofs alone.
pub mod Run
pub mod Turns
pub mod Stopping
pub mod Word
pub mod Printing
pub mod Exit
pub mod Served
pub mod Jobs
pub mod Checked
pub mod Made
pub mod Counted
