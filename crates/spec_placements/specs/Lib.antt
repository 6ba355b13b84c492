pub mod Takes
pub mod Placing
pub mod LooseParts
pub mod Crowds
pub mod Stages
