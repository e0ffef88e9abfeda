pub mod Outline
pub mod Report
pub mod Titles
pub mod Definitions
pub mod Members
pub mod Parts
pub mod Ancestry
pub mod TypeNames
