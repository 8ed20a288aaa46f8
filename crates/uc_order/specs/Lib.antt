pub mod Members
pub mod VarOrders
pub mod Laws
pub mod Precedence
pub mod Places
pub mod Renamed
pub mod Remembered
