pub mod written
