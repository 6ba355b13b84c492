pub mod Key
pub mod Log
pub mod End
pub mod Common
pub mod Live
