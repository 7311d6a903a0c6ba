pub mod Entries
pub mod Saving
pub mod Reading
pub mod Causes
pub mod Parts
pub mod Words
pub mod Refusals
