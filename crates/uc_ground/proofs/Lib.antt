pub mod Unique
pub mod Grounded
pub mod Joins
pub mod Rising
pub mod Least
pub mod Tried
pub mod Answered
pub mod Orders
