pub mod Commons
