-- The ring, a family of protocols of any size that measurements use: its texts, and the protocols that they spell.
pub mod Text
pub mod Meaning
pub mod Size
pub mod Example
