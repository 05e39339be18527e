mod ById
mod Deaths
mod Examples
mod FlatScopes
mod FlatTerms
mod FlatValues
mod FlatWords
mod Flats
mod Halves
mod Ordered
mod Places
mod PostingKinds
mod Renewal
mod Shown
mod TermKinds
pub mod Tested
mod Within
