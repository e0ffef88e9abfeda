pub mod CopyFacts
pub mod EnumValueRules
pub mod written
