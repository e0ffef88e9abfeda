-- What follows from the grammar and the declarations.
pub mod InheritanceRules
pub mod ModifierRules
