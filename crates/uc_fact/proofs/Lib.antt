pub mod Occurring
pub mod Seen
pub mod Embedded
pub mod Matched
pub mod Lists
pub mod NewVariables
pub mod Agreeing
pub mod Fitting
