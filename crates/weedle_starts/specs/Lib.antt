pub mod Tries
pub mod Starts
pub mod View
pub mod Ways
