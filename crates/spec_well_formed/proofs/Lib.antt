pub mod Plain
mod Examples
