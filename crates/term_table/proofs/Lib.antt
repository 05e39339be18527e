pub mod Orders
pub mod Tables
pub mod Found
pub mod NumberKeys
