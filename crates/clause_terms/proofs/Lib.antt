pub mod Numbers
pub mod Rows
pub mod Standings
pub mod Making
pub mod Measuring
pub mod Binding
pub mod Laws
