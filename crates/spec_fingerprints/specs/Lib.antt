pub mod Fingerprints
pub mod Examples
