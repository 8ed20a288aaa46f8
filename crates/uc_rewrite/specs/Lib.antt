pub mod Normalising
pub mod Comparing
pub mod Instances
pub mod Completed
pub mod Walking
pub mod Ends
pub mod Scanning
pub mod Replay
