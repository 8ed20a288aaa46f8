pub mod Firsts
pub mod Selected
pub mod Overlapped
pub mod Tested
pub mod Gathered
pub mod Concluded
pub mod Converged
pub mod Decided
