pub mod Chosen
pub mod Clauses
mod Examples
pub mod Settled
pub mod Written
