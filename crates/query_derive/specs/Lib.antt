pub mod Sought
pub mod Wanted
pub mod Narrowing
pub mod GoalRows
