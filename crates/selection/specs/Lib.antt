pub mod Selection
pub mod Table
pub mod Choices
pub mod Judging
pub mod Ending
