pub mod Numbers
pub mod Kinds
pub mod Forms
pub mod Tables
pub mod Writing
pub mod Refusals
