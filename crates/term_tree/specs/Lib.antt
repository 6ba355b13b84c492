pub mod Bank
pub mod Roots
pub mod TreeBank
