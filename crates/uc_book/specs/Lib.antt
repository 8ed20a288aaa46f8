pub mod Openings
pub mod Answers
pub mod Parts
pub mod Drawing
pub mod Dropping
pub mod Ending
pub mod Committing
