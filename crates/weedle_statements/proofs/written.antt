-- What follows from the grammar and the declarations.
pub mod CallbackRules
pub mod EnumRules
pub mod EnumVariantRules
pub mod StatementRules
pub mod TypedefRules
