pub mod Matching
pub mod Replacing
pub mod Extension
pub mod Unifiers
pub mod Closure
pub mod Forest
pub mod Solutions
pub mod Walking
