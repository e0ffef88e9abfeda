pub mod Finds
pub mod AncestryFacts
pub mod NameFacts
