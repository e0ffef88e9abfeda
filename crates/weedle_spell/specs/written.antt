-- What follows from the grammar and the declarations.
pub mod Arguments
pub mod PlainAttributes
pub mod Types
