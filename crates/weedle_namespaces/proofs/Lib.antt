pub mod CopyFacts
pub mod written
