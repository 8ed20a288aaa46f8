pub mod Losing
pub mod Trees
pub mod Climbs
pub mod Roots
pub mod Members
pub mod Removal
pub mod Queues
