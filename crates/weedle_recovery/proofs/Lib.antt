pub mod DivisionFacts
pub mod TokenFacts
pub mod StopFacts
pub mod CountFacts
