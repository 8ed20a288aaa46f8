pub mod Signatures
pub mod Saturated
pub mod Written
pub mod Proved
pub mod Large
pub mod Further
pub mod Later
pub mod Causes
