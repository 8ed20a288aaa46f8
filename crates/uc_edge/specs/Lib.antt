pub mod Faults
pub mod Files
pub mod Pieces
pub mod Holding
pub mod Memory
