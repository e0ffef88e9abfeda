pub mod MarkFacts
pub mod NestingFacts
pub mod WeightFacts
