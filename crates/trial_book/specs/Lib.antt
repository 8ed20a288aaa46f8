pub mod Hands
pub mod Teams
