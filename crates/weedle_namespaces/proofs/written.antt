-- What follows from the grammar and the declarations.
pub mod DictionaryDefinitionRules
pub mod DictionaryRules
pub mod NamespaceDefinitionRules
pub mod NamespaceRules
