pub mod Live
pub mod Against
pub mod Retrieval
pub mod Embedding
pub mod Ordered
pub mod Chains
pub mod Ground
