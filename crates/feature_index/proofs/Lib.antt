pub mod Counting
pub mod Weighing
pub mod Comparing
pub mod Placing
pub mod Holding
