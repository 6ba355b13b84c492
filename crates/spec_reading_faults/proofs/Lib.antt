pub mod Shared
pub mod Terms
pub mod Parts
pub mod Facts
pub mod Premises
pub mod Certificates
pub mod Reports
