pub mod Refusals
pub mod Lines
pub mod Reading
pub mod Writing
pub mod Causes
pub mod Words
