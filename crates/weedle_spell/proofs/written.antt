-- What follows from the grammar and the declarations.
pub mod ArgumentLaws
pub mod PlainAttributeLaws
pub mod TypeLaws
