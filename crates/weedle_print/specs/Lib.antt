pub mod Adds
pub mod Apart
pub mod Reserved
pub mod Separators
pub mod Words
