-- Objects with no member, with one and with more; first lines by way of their values.
pub mod Members
pub mod FirstLines
-- Writes have ids, and objects as sources.
pub mod Formed
-- Lines and what they ask for, computed.
pub mod Examples
