-- What follows from the grammar and the declarations.
pub mod Definitions
pub mod Interfaces
pub mod Iterables
pub mod Members
pub mod Modifiers
pub mod Namespaces
pub mod Statements
