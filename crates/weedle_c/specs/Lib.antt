pub mod Dialects
pub mod Nodes
pub mod Answers
pub mod Formatted
pub mod Parts
pub mod Explained
pub mod Expectations
