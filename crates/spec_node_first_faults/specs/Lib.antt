-- What is told of the parts of certificates by numbers.
pub mod Told
