pub mod Aside
pub mod Bare
pub mod Marks
pub mod Nesting
pub mod Weights
