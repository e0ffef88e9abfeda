-- What follows from the grammar and the declarations.
pub mod ArgumentRules
pub mod AttributeRules
pub mod GenericTypeRules
pub mod PlainTypeRules
pub mod TypeRules
pub mod UnionRules
