pub mod Signs
pub mod Statements
pub mod Widths
