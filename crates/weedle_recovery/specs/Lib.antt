pub mod Dialects
pub mod Tokens
pub mod Stops
pub mod Counts
pub mod Recovery
pub mod Refusals
