pub mod Pieces
pub mod written
