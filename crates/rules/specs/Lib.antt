pub mod Breach
pub mod Families
pub mod Acceptance
pub mod Edges
pub mod Statements
pub mod Lowest
pub mod Facts
