pub mod Working
pub mod Searching
pub mod Bounds
