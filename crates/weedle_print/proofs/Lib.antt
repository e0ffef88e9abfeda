pub mod AddsFacts
pub mod ApartFacts
pub mod EachFacts
pub mod SeparatedFacts
pub mod LeafFacts
pub mod RuleFacts
pub mod DocFacts
pub mod VariantFacts
