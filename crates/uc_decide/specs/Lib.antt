pub mod NormalForms
pub mod Converging
pub mod Deciding
pub mod Asking
pub mod AskingAll
