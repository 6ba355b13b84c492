-- What the contracts of the rules of scope speak of.
pub mod Extents
pub mod Numbers
pub mod Forms
pub mod Restrictions
pub mod Error
