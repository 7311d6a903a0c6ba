pub mod Steps
pub mod Answers
pub mod Pairs
pub mod Refusals
