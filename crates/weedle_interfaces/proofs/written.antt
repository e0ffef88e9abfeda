-- What follows from the grammar and the declarations.
pub mod DefinitionRules
pub mod MemberRules
