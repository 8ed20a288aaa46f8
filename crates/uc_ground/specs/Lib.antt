pub mod Joining
pub mod Sides
pub mod Ends
pub mod Orders
