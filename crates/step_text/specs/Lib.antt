pub mod Lines
pub mod Answers
pub mod Running
pub mod Batches
pub mod Rows
pub mod Causes
