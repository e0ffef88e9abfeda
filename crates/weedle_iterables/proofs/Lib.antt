pub mod PartRules
pub mod CopyFacts
pub mod written
