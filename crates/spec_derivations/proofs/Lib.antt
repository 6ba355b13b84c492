pub mod Forest
pub mod Choosing
pub mod Suffices
pub mod RowLaws
pub mod Resolution
pub mod NormLaw
pub mod Closing
pub mod Losing
mod Resting
