-- The grammar of protocol files: the classes of tokens, sketches, how they are spelled, and what is refused.
pub mod Classes
pub mod Sketch
pub mod Spelling
pub mod Refusals
pub mod Reading
pub mod Laws
