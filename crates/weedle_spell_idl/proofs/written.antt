-- What follows from the grammar and the declarations.
pub mod DefinitionLaws
pub mod InterfaceLaws
pub mod IterableLaws
pub mod MemberLaws
pub mod ModifierLaws
pub mod NamespaceLaws
pub mod StatementLaws
