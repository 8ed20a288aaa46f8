pub mod Sequence
pub mod Generated
pub mod Counting
pub mod Options
