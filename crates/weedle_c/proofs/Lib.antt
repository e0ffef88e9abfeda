pub mod FillFacts
pub mod PartFacts
pub mod WordFacts
pub mod RuleFacts
pub mod TreeFacts
mod TodayFacts
mod FormatFacts
pub mod MessageFacts
