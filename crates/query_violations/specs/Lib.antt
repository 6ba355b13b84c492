pub mod Correspondences
pub mod Alternatives
