pub mod Built
pub mod Fits
pub mod Table
pub mod Tuples
pub mod Whole
