pub mod Choices
pub mod ListingAttributes
pub mod NameLists
pub mod ReadingRules
