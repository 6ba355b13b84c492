pub mod Telling
pub mod Fitting
pub mod Answering
pub mod Each
pub mod Settling
pub mod Commons
pub mod Normed
