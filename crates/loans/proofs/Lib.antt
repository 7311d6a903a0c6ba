pub mod Ranges
pub mod Keeping
pub mod Order
pub mod Holding
pub mod Storing
pub mod Turns
pub mod Inserting
pub mod Unaccepted
