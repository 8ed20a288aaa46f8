pub mod Chains
pub mod Needed
pub mod Parts
pub mod Written
pub mod Files
pub mod Extracted
pub mod Making
pub mod Printable
