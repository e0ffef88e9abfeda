pub mod Users
pub mod UserLaws
