pub mod Commits
pub mod Ends
pub mod Hands
pub mod Works
