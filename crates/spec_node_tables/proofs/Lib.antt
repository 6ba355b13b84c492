mod Worked
pub mod Walks
pub mod Numbers
pub mod Back
pub mod Alike
pub mod Lines
pub mod Facts
pub mod Certificates
pub mod Sizes
pub mod Ordered
