pub mod Phases
pub mod Stages
pub mod Converged
pub mod Made
