pub mod Entries
pub mod Tables
pub mod Wanted
pub mod Closure
pub mod Frames
pub mod ReaderView
pub mod EntriesView
