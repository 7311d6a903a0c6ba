pub mod Loans
pub mod Meant
