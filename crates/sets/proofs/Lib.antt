pub mod Booleans
pub mod Bounded
pub mod Members
pub mod Width
pub mod Counting
pub mod Built
