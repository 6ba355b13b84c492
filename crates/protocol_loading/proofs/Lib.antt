pub mod Files
mod Refusals
