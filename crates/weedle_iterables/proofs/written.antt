-- What follows from the grammar and the declarations.
pub mod AsyncIterableRules
pub mod CollectionRules
pub mod IterableRules
