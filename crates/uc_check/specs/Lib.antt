pub mod Clauses
pub mod Variants
pub mod Replacements
pub mod Tests
pub mod Lines
pub mod Checks
pub mod Parents
