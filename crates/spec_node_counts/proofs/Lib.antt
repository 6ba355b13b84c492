pub mod Steps
mod Alike
mod Bounds
mod Counting
mod Simulated
mod Lower
mod Certificates
