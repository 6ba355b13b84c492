pub mod BankLaws
pub mod Roots
mod Entries
mod Comparing
