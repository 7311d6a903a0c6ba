pub mod Stepping
pub mod Batching
pub mod Runs
pub mod Sizes
pub mod Rows
pub mod DigitRuns
pub mod Causes
pub mod Printed
