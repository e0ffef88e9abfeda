-- What follows from the grammar and the declarations.
pub mod AttributeRules
pub mod ConstantRules
pub mod OperationRules
pub mod StringifierRules
