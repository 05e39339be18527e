mod Examples
mod Spelled
