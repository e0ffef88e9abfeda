-- What follows from the grammar and the declarations.
pub mod Bound
