pub mod Roots
pub mod Secrecy
pub mod Extension
pub mod Instances
pub mod Correspondences
pub mod GoalRows
