pub mod FaultTexts
pub mod Counts
pub mod Run
pub mod Whole
pub mod Refusal
