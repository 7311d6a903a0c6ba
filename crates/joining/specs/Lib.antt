pub mod Joining
pub mod Claims
pub mod Lent
