pub mod Once
pub mod Sound
pub mod Renaming
pub mod Named
pub mod Steps
pub mod Pairs
pub mod Earlier
pub mod Last
