pub mod DefinitionListRules
pub mod written
